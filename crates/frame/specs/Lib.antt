pub mod Frame
pub mod Laws
pub mod Legality
pub mod Stream
pub mod StreamLaws
pub mod RowLaws
