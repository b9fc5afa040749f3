-- The check of a table, and as the code makes it.
pub mod Check
pub mod Verdict
