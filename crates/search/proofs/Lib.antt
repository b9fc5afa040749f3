-- The laws of the search.
pub mod Slack
pub mod Grouping
pub mod Modelling
pub mod Entering
pub mod Promises
pub mod Determined
