pub mod Texts
pub mod Layouts
pub mod Words
pub mod Faults
pub mod inner
