-- What proofs alone speak of.
pub mod Headed
pub mod Passes
pub mod Others
pub mod Scopes
pub mod Related
pub mod Typed
pub mod Early
pub mod Listing
pub mod Pairs
