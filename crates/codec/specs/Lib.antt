pub mod Reading
pub mod Bits
pub mod Words
pub mod Runs
pub mod Records
pub mod Loops
pub mod Statements
