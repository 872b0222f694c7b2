pub mod Symbols
pub mod Refusals
