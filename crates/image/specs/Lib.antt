pub mod Codes
pub mod Cursors
pub mod Faults
pub mod Groups
pub mod Reading
pub mod Theorems
pub mod Writing
