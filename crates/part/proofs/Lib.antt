pub mod Laws
pub mod WalkLaws
pub mod Examples
