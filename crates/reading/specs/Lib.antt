pub mod Examples
pub mod Flaws
pub mod Laws
pub mod Line
pub mod Messages
pub mod Number
pub mod Request
pub mod Words
