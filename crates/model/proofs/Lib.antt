-- What a model that is not refused has, its hyper-period and its packets; and that every answer is determined.
pub mod Near
pub mod Packing
pub mod Numbering
pub mod InTime
pub mod Determined
pub mod Refusing
