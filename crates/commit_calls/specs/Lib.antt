pub mod Storing
pub mod Ready
pub mod Commits
pub mod Ways
