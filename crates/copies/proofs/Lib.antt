-- Laws of a copy as it is written.
pub mod Lines
