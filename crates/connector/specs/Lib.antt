pub mod Keeping
pub mod Rests
pub mod Storing
pub mod Lines
