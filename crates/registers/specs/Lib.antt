-- Registers as values of their types.
pub mod Once
pub mod Value
pub mod Registers
