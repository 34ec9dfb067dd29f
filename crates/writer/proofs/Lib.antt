-- Laws of saved text as it is written.
pub mod Remains
pub mod Turns
pub mod Shown
