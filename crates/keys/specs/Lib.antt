-- The keys of the list.
pub mod Slack
