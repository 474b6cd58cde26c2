pub mod BitLaws
pub mod Held
