-- The laws of passes.
pub mod Parts
pub mod PassSteps
pub mod Sound
pub mod Tightening
pub mod Stepping
pub mod Failing
pub mod Running
pub mod Along
pub mod Fuel
pub mod Start
pub mod Searching
pub mod Complete
pub mod Alike
pub mod Determined
