pub mod Law
pub mod Steps
pub mod Ones
pub mod Boths
pub mod Choices
pub mod Lists
pub mod Wholes
pub mod Loops
