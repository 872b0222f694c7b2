pub mod Sources
pub mod Bytes
pub mod Numbered
