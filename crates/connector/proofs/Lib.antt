pub mod Behind
pub mod Keepings
pub mod Performed
pub mod InMemory
pub mod Storings
