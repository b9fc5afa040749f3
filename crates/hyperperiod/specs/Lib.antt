-- Divisors and the hyper-period.
pub mod Divisor
pub mod Hyper
