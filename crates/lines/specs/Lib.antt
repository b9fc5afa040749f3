-- The lines of a text, and the steps of the code that reads them.
pub mod Form
pub mod Steps
