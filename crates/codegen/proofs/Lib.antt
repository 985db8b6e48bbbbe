pub mod Trees
pub mod Loops
pub mod Sizes
