pub mod Reading
pub mod Bits
pub mod Runs
pub mod Words
pub mod Records
pub mod Loops
pub mod Theorems
