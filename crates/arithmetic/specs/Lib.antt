-- What the code's answers mean, and the laws of the widths.
pub mod Meaning
pub mod Laws
