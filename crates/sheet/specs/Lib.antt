pub mod Arguments
pub mod Calls
pub mod Fields
pub mod Laws
pub mod Lines
