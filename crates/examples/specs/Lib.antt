pub mod Starred
pub mod Lists
