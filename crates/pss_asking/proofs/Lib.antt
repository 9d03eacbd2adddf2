pub mod Telling
pub mod Putting
