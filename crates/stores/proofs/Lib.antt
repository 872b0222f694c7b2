pub mod Writes
pub mod Fronts
pub mod Questions
