-- The laws of the lines of a text and of the numbers kept of them; then that answers are determined.
pub mod Determined
pub mod FlowLines
pub mod Keeping
pub mod TextLines
