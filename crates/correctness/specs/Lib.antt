pub mod Agreement
pub mod Sessions
pub mod Examples
pub mod Named
pub mod Heights
