pub mod Deeds
pub mod Heard
pub mod Laws
pub mod Runs
