pub mod Grammar
pub mod Theorems
pub mod Prefixes
