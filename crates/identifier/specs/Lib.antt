pub mod Characters
pub mod Counterparty
pub mod Examples
pub mod Isin
pub mod Line
pub mod Luhn
pub mod Verdict
