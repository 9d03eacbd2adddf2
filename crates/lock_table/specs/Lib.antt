pub mod Locks
pub mod Standing
pub mod Blockers
pub mod Agreement
pub mod inner
