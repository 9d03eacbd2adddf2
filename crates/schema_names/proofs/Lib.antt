pub mod Entering
pub mod Firsts
pub mod Finding
pub mod Placing
pub mod Rooted
pub mod Hashing
pub mod Leading
