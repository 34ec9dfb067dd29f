-- Laws that the proofs cite: the quotas together, fields in conflict with a policy, a record that is opened, the tables that are, two tables in one array, zeros, and the four texts.
pub mod Quotas
pub mod Conflicting
pub mod Opened
pub mod TablesOpened
pub mod Stored
pub mod Masks
pub mod Zeros
pub mod AllOpened
