pub mod Bits
pub mod Readers
