-- What acceptance and the state test give to the code that runs a module: its `requires`, as theorems; and what a verdict gives to answers.
pub mod Verdicts
pub mod Accepted
pub mod Steady
pub mod Answers
