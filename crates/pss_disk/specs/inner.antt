pub mod Crash
pub mod Writing
pub mod Told
