pub mod Numbers
pub mod Written
pub mod Adds
pub mod Fields
pub mod Template
pub mod Below
