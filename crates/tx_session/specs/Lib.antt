pub mod Kept
pub mod Owners
pub mod Acting
pub mod Following
