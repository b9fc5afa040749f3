-- The idioms that every definition uses.
pub mod Choose
pub mod First
pub mod Lists
pub mod Sums
