pub mod Kept
pub mod Fits
pub mod Scripts
