-- The pages that a return closes, and their laws.
pub mod Left
