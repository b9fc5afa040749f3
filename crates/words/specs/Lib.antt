-- Words as bytes, fields, and text written into a lent buffer.
pub mod Bytes
pub mod Fields
pub mod Writer
