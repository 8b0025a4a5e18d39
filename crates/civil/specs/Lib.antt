pub mod Dates
pub mod Text
pub mod Weekdays
pub mod Years
