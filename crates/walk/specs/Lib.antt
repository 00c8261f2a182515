-- Laws of the file's records and of the walk, for the code that reads and walks.
pub mod Record
pub mod Scan
pub mod Tables
pub mod Code
pub mod Run
