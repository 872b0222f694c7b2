pub mod Triples
pub mod Cuts
pub mod Spots
pub mod Opening
pub mod Ahead
