pub mod Blanks
pub mod Marks
pub mod Neighbours
pub mod Steps
