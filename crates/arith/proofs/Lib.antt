mod Bitwise
mod Compared
mod Fielded
mod Ints
mod Numbered
mod Rounds
mod Shifted
pub mod Standing
