pub mod Halves
pub mod Crossings
pub mod Banks
pub mod Streets
