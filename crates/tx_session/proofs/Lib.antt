pub mod Turns
pub mod Stepping
pub mod Actors
pub mod Endings
pub mod Coming
pub mod Blocking
pub mod References
pub mod Telling
