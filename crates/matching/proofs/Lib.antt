-- Laws that the proofs cite: what a step admits, and which steps overlap.
pub mod Matched
pub mod Conflicts
