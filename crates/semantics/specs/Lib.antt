pub mod Effects
pub mod Meaning
pub mod Bounds
pub mod Cells
pub mod Examples
