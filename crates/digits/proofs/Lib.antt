-- The laws of fields as numbers and of numbers printed; then that what is read is determined.
pub mod Decimals
pub mod Determined
pub mod Spelling
