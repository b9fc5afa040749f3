-- What a text says, and a model's own lines as text.
pub mod Reader
pub mod ModelText
