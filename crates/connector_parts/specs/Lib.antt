pub mod Few
pub mod Stands
pub mod Found
