pub mod Rounds
pub mod Shapes
pub mod Ending
pub mod Showing
pub mod Complete
