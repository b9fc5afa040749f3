-- The laws of divisors and multiples and of the hyper-period, and that every answer is determined.
pub mod Divisor
pub mod HyperPeriod
pub mod Determined
