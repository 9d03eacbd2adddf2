pub mod Reading
pub mod Sentences
