pub mod Code
pub mod Items
pub mod Passes
pub mod Measure
pub mod Trees
