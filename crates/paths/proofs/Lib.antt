-- Laws that the proofs cite, and callers too: reading, spelling and ordering paths, and what two share.
pub mod Ordered
pub mod Shared
pub mod Spelled
pub mod InBrackets
pub mod WholePaths
pub mod KeySteps
pub mod PathBytes
