pub mod Orbits
pub mod Statements
