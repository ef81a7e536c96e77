pub mod Laws
pub mod Refusals
pub mod Unique
pub mod Examples
