-- Laws that the proofs cite: what a push is decided to be.
pub mod Ruled
