-- A pass, the passes, the search over any list of packets; and both as the code takes them.
pub mod Pass
pub mod Passes
pub mod Stand
pub mod Search
