pub mod Laws
pub mod RowLaws
pub mod Cuts
