pub mod Every
pub mod Rows
pub mod Having
pub mod Ways
pub mod Encoding
pub mod Parameters
pub mod Exceptions
pub mod RoundTrip
