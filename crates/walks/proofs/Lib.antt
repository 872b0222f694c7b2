pub mod Going
pub mod Homing
pub mod Rounds
pub mod Least
