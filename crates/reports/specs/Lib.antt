-- The answer read off what the passes leave.
pub mod Reports
