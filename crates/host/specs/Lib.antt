-- The answers of the code as those of rules' Host, the laws that its functions go by, and what calls in turn give.
pub mod Ready
pub mod Testing
pub mod Reading
pub mod Going
pub mod Calls
