pub mod Grounds
pub mod Numbers
