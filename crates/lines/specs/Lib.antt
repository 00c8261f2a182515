-- The program's printed lines: the definition, the laws of writing them, and cases.
pub mod Lines
pub mod Writing
pub mod Cases
pub mod Said
