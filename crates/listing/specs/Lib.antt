pub mod Text
pub mod Output
pub mod Report
