pub mod Closings
pub mod Lines
pub mod Tallies
