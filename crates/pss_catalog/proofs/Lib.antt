pub mod Listing
pub mod Uniqueness
mod Rows
pub mod Forest
pub mod Descent
pub mod Passes
pub mod Deriving
