pub mod Codes
pub mod Meaning
pub mod Finding
pub mod inner
