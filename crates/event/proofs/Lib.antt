pub mod Laws
pub mod Legality
pub mod Keeps
pub mod Said
pub mod Leftovers
