pub mod Stored
pub mod Judged
pub mod Reading
pub mod Rows
pub mod Read
