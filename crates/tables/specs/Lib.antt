pub mod Nests
pub mod Judging
