pub mod Classes
pub mod Orders
