pub mod Kinds
pub mod Number
pub mod Body
pub mod Row
