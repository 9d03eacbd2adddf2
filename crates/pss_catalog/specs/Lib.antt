pub mod Catalog
pub mod Codes
pub mod Changes
pub mod Laws
pub mod Families
pub mod inner
