-- Laws that the proofs cite, and callers too.
pub mod Classes
pub mod Runs
pub mod Between
pub mod Slices
pub mod Words
pub mod Readers
pub mod Decimals
