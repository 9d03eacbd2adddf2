pub mod Marks
pub mod Searches
pub mod Lower
