-- Numbers in digits.
pub mod Numbers
