pub mod Tables
pub mod Nodes
pub mod Walks
pub mod Links
