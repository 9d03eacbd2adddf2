pub mod Descent
pub mod Conformance
pub mod Graph
pub mod Lineages
pub mod Sources
pub mod inner
