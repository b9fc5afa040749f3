-- The laws of plans.
pub mod Turning
pub mod Planning
pub mod Promises
pub mod Determined
