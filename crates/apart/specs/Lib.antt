pub mod Fronts
pub mod Statements
