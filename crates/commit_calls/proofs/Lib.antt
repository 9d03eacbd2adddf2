pub mod Pids
pub mod Outcomes
pub mod Readiness
pub mod Settlements
pub mod Commitments
