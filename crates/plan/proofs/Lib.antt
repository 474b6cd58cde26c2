pub mod Below
pub mod Counts
pub mod Memory
pub mod Numbers
pub mod Orders
pub mod PipeLaws
pub mod Verdicts
pub mod Walks
