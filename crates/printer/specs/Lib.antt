-- The text that is printed.
pub mod Printer
pub mod ByLine
