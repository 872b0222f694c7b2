pub mod Loading
pub mod Listing
pub mod Lines
