pub mod Steps
pub mod Replacements
pub mod Queues
