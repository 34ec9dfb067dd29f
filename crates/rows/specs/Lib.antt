-- Definitions on lists that contracts and meanings cite.
pub mod Rows
pub mod Moves
pub mod Positions
