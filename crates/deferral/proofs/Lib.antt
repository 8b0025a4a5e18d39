pub mod Later
pub mod Opening
pub mod Timely
