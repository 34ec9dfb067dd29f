-- Laws that the proofs cite, and callers too: the login states in memory.
pub mod States
pub mod Known
