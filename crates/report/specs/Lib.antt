pub mod Judged
pub mod Listed
pub mod Published
pub mod States
pub mod Warned
