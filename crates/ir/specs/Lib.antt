pub mod Instrs
pub mod Trees
pub mod Lists
