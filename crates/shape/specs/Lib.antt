-- What the tests of header, pages and spare bytes say, and the laws that their code uses.
pub mod Zeros
pub mod Header
pub mod Pages
pub mod Spare
pub mod Shape
