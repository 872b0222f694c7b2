pub mod Reading
pub mod Drawings
