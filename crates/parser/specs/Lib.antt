pub mod Faults
pub mod ValueTypes
pub mod Nodes
pub mod Marks
pub mod Machine
pub mod Readers
pub mod Works
