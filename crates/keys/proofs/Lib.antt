-- That the keys are determined.
pub mod Determined
