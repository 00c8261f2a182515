-- The type of a live region as the code finds it, and what rests on its size alone.
pub mod Once
pub mod Homes
