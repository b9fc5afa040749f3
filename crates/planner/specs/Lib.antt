-- From the bytes of a text to the whole answer, and to the output text.
pub mod Numbered
pub mod Plan
