-- The laws of the idioms, and what it means that a contract fixes its result.
pub mod Choose
pub mod Determined
pub mod Each
pub mod First
pub mod Lists
pub mod Sums
