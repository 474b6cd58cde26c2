pub mod Making
pub mod Rows
