pub mod Reading
pub mod Turning
pub mod Sides
