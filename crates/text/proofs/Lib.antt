pub mod Printing
pub mod Fitting
pub mod Ways
pub mod Printed
pub mod Example
