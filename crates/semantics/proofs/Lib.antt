pub mod Stores
pub mod Indexes
pub mod Bounds
pub mod Cells
pub mod Examples
