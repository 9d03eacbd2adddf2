pub mod Moments
pub mod Octets
pub mod Images
pub mod Parts
pub mod Reading
pub mod Tape
pub mod Outside
pub mod inner
