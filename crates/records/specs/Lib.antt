-- Lines and fields.
pub mod Records
