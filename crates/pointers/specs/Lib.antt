-- Kinds 22 and 39: what the code compares, and its two tests.
pub mod Checks
