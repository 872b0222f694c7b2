pub mod Limits
pub mod Replays
