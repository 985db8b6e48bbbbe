mod Chosen
pub mod Pushes
pub mod Tables
