-- Packets, their start range, their collisions, and the tables that pass.
pub mod Packet
pub mod Table
