pub mod Codes
pub mod Meaning
pub mod Telling
pub mod History
pub mod inner
