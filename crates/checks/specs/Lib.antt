pub mod Tallies
pub mod Counting
