-- What packets hold, as the search has it in arrays.
pub mod Entries
pub mod Load
