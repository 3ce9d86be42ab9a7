pub mod Numbered
pub mod Both
pub mod Ended
