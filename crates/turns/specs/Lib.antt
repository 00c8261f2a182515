-- What a step and the steps of a run leave, and the laws that the loop needs.
pub mod Stepped
pub mod Turns
