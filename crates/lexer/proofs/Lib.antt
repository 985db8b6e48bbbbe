pub mod Fronts
pub mod Cutting
pub mod Signs
pub mod Lookups
pub mod FirstBytes
pub mod Sound
pub mod Readings
pub mod Unique
