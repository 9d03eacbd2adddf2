mod Vectors
mod Rows
pub mod Counting
pub mod Octets
pub mod OfType
pub mod Bases
pub mod Joining
pub mod Chosen
pub mod Keyed
pub mod Lookups
pub mod Places
pub mod Named
pub mod Held
pub mod Firsts
pub mod HomesFound
pub mod Searching
pub mod Apart
pub mod KeysTell
pub mod Records
pub mod Sounding
pub mod Scoping
pub mod Ending
pub mod Provisions
