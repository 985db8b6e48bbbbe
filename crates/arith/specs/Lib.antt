pub mod Stops
pub mod Integers
pub mod Logicals
pub mod Relations
pub mod Bits
pub mod Fields
pub mod Shifts
pub mod Laws
