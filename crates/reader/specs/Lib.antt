pub mod Tokens
pub mod Summaries
