pub mod Bridges
pub mod Chordal
pub mod Verdict
