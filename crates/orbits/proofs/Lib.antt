pub mod Members
pub mod Turns
pub mod Sidewalks
pub mod Roots
pub mod Tells
pub mod Twins
pub mod All
