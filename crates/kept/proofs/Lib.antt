-- The laws of placed packets in order of start, and that the answer is determined.
pub mod Spots
pub mod OneMore
pub mod Determined
