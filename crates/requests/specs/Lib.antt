pub mod Parameters
pub mod Requests
pub mod Codec
pub mod Shared
pub mod Rows
