pub mod Reached
pub mod Accounts
pub mod Steps
pub mod Coming
pub mod Commits
