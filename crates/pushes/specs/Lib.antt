pub mod Rulings
