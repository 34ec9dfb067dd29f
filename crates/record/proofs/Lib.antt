-- Laws of the table and its slots.
pub mod Search
pub mod Places
pub mod Stores
pub mod Slots
pub mod Masks
pub mod Canonical
