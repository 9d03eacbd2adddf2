pub mod Forms
pub mod Shows
pub mod Ends
pub mod Complete
