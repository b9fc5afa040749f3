-- The laws of the order of the list, of flows spread out into their packets, of a number put in, and of the first start after a time.
pub mod Shifting
pub mod After
pub mod Ordering
pub mod Scanning
pub mod Grouping
pub mod Spreading
pub mod Determined
