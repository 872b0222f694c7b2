pub mod Covering
pub mod Texts
pub mod Maps
pub mod Telling
