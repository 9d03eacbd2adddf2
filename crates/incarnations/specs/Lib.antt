pub mod Keys
pub mod Codes
pub mod Records
pub mod Meaning
pub mod Rings
pub mod Stock
