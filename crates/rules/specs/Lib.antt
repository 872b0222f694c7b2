pub mod Words
pub mod Tables
pub mod Crossings
pub mod Statements
