pub mod Counting
pub mod Filled
pub mod Filling
pub mod Laws
pub mod Neighbours
pub mod Parents
pub mod Placing
pub mod Takeover
