pub mod People
pub mod Lines
pub mod Tally
pub mod Shows
pub mod inner
