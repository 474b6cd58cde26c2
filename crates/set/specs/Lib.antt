pub mod Kept
pub mod Laws
pub mod Ledgers
pub mod Worked
