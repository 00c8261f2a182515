-- The marks past the last place of a page, as the code tests them.
pub mod Ends
