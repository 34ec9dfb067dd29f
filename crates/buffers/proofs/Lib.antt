-- Laws that the proofs cite, and callers too.
pub mod Writers
