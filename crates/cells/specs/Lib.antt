pub mod Choice
pub mod Cells
pub mod Output
pub mod OutputLaws
pub mod Put
pub mod PutLaws
pub mod Stepping
