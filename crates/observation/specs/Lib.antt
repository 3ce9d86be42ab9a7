pub mod Run
pub mod Observation
pub mod Premises
