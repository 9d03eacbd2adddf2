pub mod Comings
pub mod Moves
pub mod Associations
pub mod Goings
pub mod Holdings
pub mod Tellings
