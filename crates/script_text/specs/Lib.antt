pub mod Words
pub mod Parts
pub mod Spelling
pub mod Replies
pub mod Meaning
pub mod Telling
pub mod inner
