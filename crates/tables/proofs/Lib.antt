-- Laws that the proofs cite, and callers too: tables of rows in memory, the users and the lines of a policy; and tables written as their meaning is.
pub mod Users
pub mod Policy
pub mod Held
pub mod Given
pub mod Pushed
pub mod Encoded
