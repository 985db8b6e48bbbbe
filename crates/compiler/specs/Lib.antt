pub mod Faults
pub mod Compile
pub mod Theorems
pub mod Enclosed
pub mod Heights
pub mod Examples
