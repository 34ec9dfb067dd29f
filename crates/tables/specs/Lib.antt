pub mod Memory
pub mod Grants
