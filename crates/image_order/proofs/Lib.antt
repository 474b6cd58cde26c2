pub mod FirstTold
pub mod Loaded
