pub mod Turns
pub mod Spoken
pub mod Runs
