mod Operands
mod Pops
pub mod Runs
pub mod Steps
pub mod Views
pub mod Going
pub mod Played
