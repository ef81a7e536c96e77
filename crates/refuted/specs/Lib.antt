pub mod Wrong
pub mod Refuted
pub mod WrongWriters
pub mod RefutedWriters
pub mod WrongReports
pub mod RefutedReports
