pub mod Tables
pub mod Placing
pub mod Valuing
pub mod Wording
pub mod Stringing
pub mod Lexing
pub mod Marks
