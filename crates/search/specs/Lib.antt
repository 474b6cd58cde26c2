pub mod Memory
pub mod Rule
pub mod Theorems
pub mod Worked
pub mod Working
