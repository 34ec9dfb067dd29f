-- Laws that the proofs cite, and callers too.
pub mod Wholes
pub mod Values
