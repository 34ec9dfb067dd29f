-- Laws that the proofs cite: what the numbers say of an answer, and that 0 says that an opening was accepted.
pub mod Numbered
pub mod Accepted
