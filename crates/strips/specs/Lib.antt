pub mod Strips
pub mod Cuts
