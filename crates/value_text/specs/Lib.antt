pub mod Words
pub mod Letters
pub mod Texts
pub mod Printed
pub mod Laws
pub mod Reading
pub mod Line
