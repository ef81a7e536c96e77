pub mod Margins
pub mod Laws
