pub mod Map
pub mod Readout
pub mod Measured
