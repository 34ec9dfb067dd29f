-- Laws of rows in use, of zeros behind them, of rows behind a count and of names in rows, each over the size, the number and the decoding;
-- and of bytes written as their meaning is.
pub mod Used
pub mod Changed
pub mod Tight
pub mod Counts
pub mod Named
pub mod Canonical
