pub mod Laws
pub mod WatchLaws
pub mod ReportLaws
pub mod HeardLaws
pub mod RowLaws
pub mod ReadLaws
pub mod Playing
pub mod Unique
