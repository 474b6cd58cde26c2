pub mod Layers
pub mod States
pub mod Seen
