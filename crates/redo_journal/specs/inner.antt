pub mod Window
pub mod Laying
