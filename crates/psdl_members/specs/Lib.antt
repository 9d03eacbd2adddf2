pub mod Clashes
pub mod Bodies
pub mod Listings
pub mod Texts
pub mod inner
