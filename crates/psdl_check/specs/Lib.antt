pub mod Schemas
pub mod Faults
pub mod TextNames
pub mod inner
