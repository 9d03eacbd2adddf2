pub mod Tables
pub mod Naming
pub mod Sounds
pub mod Machine
pub mod Follow
pub mod Telling
