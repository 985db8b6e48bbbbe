pub mod Trees
pub mod Lists
