pub mod Event
pub mod Alone
