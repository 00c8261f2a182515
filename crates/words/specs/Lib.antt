-- What every crate above says about bytes, and the laws for it.
pub mod Bytes
pub mod ByteLaws
pub mod Bits
pub mod BitLaws
pub mod First
pub mod FirstLaws
pub mod Choose
pub mod Widths
pub mod Decide
