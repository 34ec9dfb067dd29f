-- Laws that the proofs cite: the lines of a user's environment, what a line adds to a table, both tables in one memory, and the lines of a text.
pub mod Bindings
pub mod Standing
pub mod Added
pub mod Kept
pub mod Lined
