pub mod Kept
pub mod Meant
pub mod Examples
pub mod Cells
