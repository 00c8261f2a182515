-- Kinds 17 to 21.
pub mod Numbers
