pub mod Counting
pub mod Sundays
pub mod Years
pub mod Months
mod TwoDigits
