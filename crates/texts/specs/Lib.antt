pub mod Texts
pub mod Lists
pub mod PemH
pub mod Operators
pub mod Why
