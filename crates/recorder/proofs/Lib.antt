pub mod Puts
pub mod Bits
pub mod Shown
pub mod Closing
pub mod Written
