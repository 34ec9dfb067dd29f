pub mod Masked
pub mod MaskedCases
pub mod Replies
pub mod Calls
