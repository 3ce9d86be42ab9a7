pub mod View
pub mod Words
pub mod Ticks
pub mod Unseen
pub mod Premises
pub mod Written
