pub mod Run
pub mod Earliest
pub mod Claim
pub mod Rehearse
pub mod Compare
pub mod Listed
