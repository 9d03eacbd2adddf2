pub mod Named
pub mod Decisions
pub mod Bounds
pub mod Goings
pub mod Growth
pub mod Tellings
