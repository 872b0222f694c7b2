pub mod Walks
pub mod Statements
