pub mod Slots
pub mod Search
