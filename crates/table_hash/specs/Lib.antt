pub mod Hashing
pub mod Numbers
