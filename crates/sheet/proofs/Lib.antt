pub mod Cutting
pub mod FirstLines
pub mod Numerals
pub mod OneLine
pub mod Spelling
pub mod Uniqueness
