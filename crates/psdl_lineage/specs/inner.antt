-- What proofs alone speak of.
pub mod Rows
pub mod Meant
pub mod Walking
pub mod Walks
pub mod Lines
pub mod Marking
pub mod KeptSources
pub mod SourceTables
pub mod Inherited
pub mod Families
pub mod Providing
pub mod Known
