-- The laws of routes, and of links in common.
pub mod Building
pub mod Common
pub mod Determined
pub mod Legs
pub mod NoneTwice
pub mod Turns
pub mod TwoLegs
pub mod XY
