pub mod Laws
pub mod Headers
pub mod Unique
pub mod Examples
