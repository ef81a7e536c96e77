pub mod Script
pub mod Run
pub mod Jobs
pub mod Report
pub mod Watch
pub mod Heard
