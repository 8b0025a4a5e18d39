pub mod Dated
pub mod Gauss
pub mod Nearest
pub mod Rising
pub mod Stepping
