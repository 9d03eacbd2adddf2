pub mod Checkpoints
pub mod Kept
pub mod Placed
pub mod Gates
pub mod Stores
pub mod Switch
pub mod Touched
pub mod inner
