-- The program as a function: its lines by the code's answers, the text in the bytes lent for it, and how much of a file it must read.
pub mod Report
pub mod Enough
