pub mod Saving
