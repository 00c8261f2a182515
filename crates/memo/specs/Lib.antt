-- What is remembered of runs.
pub mod Memo
