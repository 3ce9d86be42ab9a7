pub mod Fields
pub mod Kinds
pub mod Codec
pub mod Count
pub mod UpperByte
