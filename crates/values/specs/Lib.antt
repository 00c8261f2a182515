-- Primitives in pages as values of their types, and the state test as a whole from its parts.
pub mod Memory
pub mod Passes
pub mod Pages
