-- The order of the list, and lists of packet numbers as the code holds them.
pub mod Order
pub mod Lists
pub mod Grouped
