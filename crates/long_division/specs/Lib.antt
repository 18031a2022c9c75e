pub mod Digits
pub mod Claim
