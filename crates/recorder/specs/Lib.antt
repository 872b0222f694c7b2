pub mod Bytes
pub mod Packing
pub mod Words
pub mod Runs
