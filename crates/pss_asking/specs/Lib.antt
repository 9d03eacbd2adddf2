pub mod Telling
pub mod Given
