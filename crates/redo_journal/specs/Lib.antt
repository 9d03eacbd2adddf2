pub mod Journal
pub mod Faults
pub mod inner
pub mod Laws
