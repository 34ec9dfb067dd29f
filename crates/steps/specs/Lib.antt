pub mod Steps
pub mod Environments
