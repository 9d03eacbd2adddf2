pub mod Openings
pub mod Starts
pub mod Endings
pub mod Closings
