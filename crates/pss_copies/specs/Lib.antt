pub mod Told
pub mod Seats
pub mod Ruled
pub mod Stepped
pub mod Settling
