-- The laws of packets and tables.
pub mod Packet
pub mod Table
pub mod Placed
