-- The laws of the report, and that it is determined.
pub mod Reporting
pub mod Determined
