pub mod Fields
pub mod Job
pub mod Chip
pub mod Record
