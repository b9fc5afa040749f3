-- The walk over pairs.
pub mod Scan
