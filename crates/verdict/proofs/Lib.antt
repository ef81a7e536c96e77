pub mod Laws
pub mod Legality
