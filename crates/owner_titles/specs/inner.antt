pub mod Numbered
pub mod Register
pub mod Room
