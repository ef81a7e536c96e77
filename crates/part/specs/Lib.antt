pub mod Part
pub mod Area
pub mod Protection
pub mod Walk
