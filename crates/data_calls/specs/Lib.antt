pub mod Acting
pub mod Asking
pub mod Ways
pub mod Leaving
pub mod Replying
pub mod Finishing
pub mod Copied
pub mod Glances
