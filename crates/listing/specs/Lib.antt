pub mod Report
pub mod Claim
