-- Laws that the proofs cite: a text cut in two, each kind of line by positions, and the kinds together.
pub mod Cuts
pub mod ByPositions
pub mod FirstOf
