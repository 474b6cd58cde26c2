pub mod Memory
pub mod Orders
pub mod Plans
pub mod Refusals
pub mod Registers
pub mod Walks
