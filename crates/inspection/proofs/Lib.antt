pub mod Outcomes
pub mod Meanings
pub mod Noting
pub mod Wording
pub mod Counting
pub mod Ending
pub mod Fitting
