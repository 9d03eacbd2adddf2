pub mod Maps
pub mod Turned
pub mod Lends
