-- Laws of masks.
pub mod Bits
pub mod Readers
