-- Laws of the receivers of a push and of the lines that they are sent; callers cite them too.
pub mod Received
pub mod Delivered
