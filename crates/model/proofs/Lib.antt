pub mod Pixels
pub mod Inside
pub mod Passing
pub mod Listing
pub mod Checking
