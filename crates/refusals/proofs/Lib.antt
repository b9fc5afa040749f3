-- The laws of refusals, and that the answer is determined.
pub mod Order
pub mod Accepted
pub mod Places
pub mod Determined
