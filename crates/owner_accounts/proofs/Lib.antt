pub mod Runs
pub mod May
pub mod Acting
pub mod Moving
pub mod Naming
pub mod Growing
pub mod Committing
pub mod Counting
