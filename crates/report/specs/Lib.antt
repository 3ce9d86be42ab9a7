pub mod Read
pub mod Acts
pub mod Lines
pub mod Opening
pub mod Ending
pub mod Refusal
pub mod Report
pub mod Printed
