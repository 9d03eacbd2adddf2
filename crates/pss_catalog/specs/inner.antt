pub mod Table
pub mod Sizes
pub mod Rows
