pub mod Compiling
pub mod Exact
pub mod Heights
pub mod Enclosed
pub mod Examples
