pub mod Numbers
pub mod Written
pub mod Ir
pub mod Ccd
pub mod Said
