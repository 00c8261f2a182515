-- The match on the opcode.
pub mod Acts
