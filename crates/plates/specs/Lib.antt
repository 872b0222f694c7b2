pub mod Showing
pub mod Plates
pub mod Worked
