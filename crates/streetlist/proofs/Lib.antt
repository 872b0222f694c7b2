pub mod Putting
pub mod Lining
pub mod Listing
pub mod Filling
