pub mod Printing
pub mod Accepted
