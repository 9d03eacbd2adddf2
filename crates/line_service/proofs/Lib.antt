pub mod Speech
pub mod Saying
pub mod Progress
pub mod Exits
pub mod Passing
