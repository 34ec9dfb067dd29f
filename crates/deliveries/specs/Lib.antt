pub mod Receivers
