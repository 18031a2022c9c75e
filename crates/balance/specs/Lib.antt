pub mod Balance
pub mod Claim
