pub mod ColdStart
pub mod Claim
