pub mod Calls
pub mod Reach
pub mod Rings
