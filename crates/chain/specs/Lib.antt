-- What the test of a state's frames says, and the laws that its code uses.
pub mod Chain
pub mod Frames
