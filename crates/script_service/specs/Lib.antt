pub mod Turns
pub mod Keeping
pub mod Going
pub mod Rightful
pub mod Bounds
