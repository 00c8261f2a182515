-- What a test of a state's bytes tells, and the laws of frames and live regions that its code uses.
pub mod Tells
pub mod Facts
