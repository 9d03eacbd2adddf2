pub mod Names
pub mod Rings
pub mod Meaning
pub mod Linked
pub mod Cells
