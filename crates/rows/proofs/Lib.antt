-- Laws that other crates use.
pub mod Rows
pub mod Moves
pub mod Writing
pub mod Parts
pub mod Positions
