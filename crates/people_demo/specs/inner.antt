pub mod Short
pub mod Showing
pub mod Serving
pub mod Begun
pub mod Telling
