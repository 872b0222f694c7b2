pub mod Single
pub mod Loading
