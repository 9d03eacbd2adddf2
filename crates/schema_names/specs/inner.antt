pub mod Homes
pub mod Codes
pub mod Hashed
