pub mod Located
pub mod Repacked
pub mod SlotTables
pub mod Planned
pub mod Laying
pub mod Switching
pub mod Lost
pub mod Rows
