pub mod Earliest
pub mod Schedule
pub mod Clock
pub mod Translate
pub mod Filled
