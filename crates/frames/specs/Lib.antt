-- The frame that a call makes, and its laws.
pub mod Packed
pub mod Entered
