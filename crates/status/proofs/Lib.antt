pub mod Fields
pub mod SameTables
pub mod Drawn
