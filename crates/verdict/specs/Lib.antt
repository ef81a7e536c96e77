pub mod Verdict
pub mod Effect
