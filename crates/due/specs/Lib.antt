pub mod Numbers
pub mod Due
