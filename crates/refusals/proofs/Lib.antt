-- A law of the numbers: no refusal has 0.
pub mod Positive
