-- The answer of the search, and what its code asks of a model.
pub mod Answering
pub mod Modelled
