pub mod Spelt
pub mod Tables
pub mod Keys
pub mod Scopes
pub mod Nodes
pub mod Placed
pub mod Flattened
pub mod Named
