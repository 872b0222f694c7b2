pub mod Filling
pub mod Resting
pub mod Failing
pub mod Strolls
pub mod Tours
pub mod Orders
pub mod Coming
pub mod Taken
