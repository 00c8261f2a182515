-- Refusal 7 as tests that the code makes.
pub mod Registers
pub mod Types
pub mod Rules
pub mod Kinds
pub mod Calls
pub mod Function
