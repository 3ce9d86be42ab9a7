pub mod Diagnosis
pub mod Truth
