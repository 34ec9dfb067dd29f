-- Laws of record text by positions.
pub mod Spaced
pub mod Mapped
pub mod Objects
pub mod Tops
pub mod Readings
pub mod Standing
pub mod Sums
