pub mod Faults
pub mod Trials
pub mod Promised
pub mod Examples
pub mod Cells
