pub mod Maps
pub mod Hashed
pub mod Standing
