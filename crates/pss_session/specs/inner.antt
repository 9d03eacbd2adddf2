pub mod Rows
pub mod Walks
pub mod Names
pub mod Register
