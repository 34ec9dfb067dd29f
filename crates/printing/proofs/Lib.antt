-- Laws of what is printed: the pieces of each text, and what a request's reply says of it.
pub mod Pieces
pub mod Responded
