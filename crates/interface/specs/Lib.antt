pub mod State
pub mod Stepping
pub mod Codec
pub mod Plans
pub mod Blocks
pub mod PemH
pub mod Operators
pub mod Why
