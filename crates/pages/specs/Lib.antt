-- The allocator's searches, what its answer means, and the laws of both.
pub mod Search
pub mod Places
pub mod Meaning
pub mod Known
pub mod Untyped
