pub mod Judged
pub mod Numbered
pub mod Copied
pub mod Writing
pub mod Parts
pub mod IrRound
pub mod CcdRound
pub mod Rewritten
