pub mod Likely
pub mod Seen
