pub mod Stored
pub mod Savings
