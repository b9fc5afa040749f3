-- The laws of the whole text; then the promises: what is read back, examples, and that what a text says is determined.
pub mod Determined
pub mod Examples
pub mod RoundTrip
pub mod WholeText
