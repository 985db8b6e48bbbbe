pub mod Faults
pub mod Lexemes
pub mod Cut
pub mod Whole
pub mod Names
pub mod Reserved
pub mod Forms
pub mod Theorems
