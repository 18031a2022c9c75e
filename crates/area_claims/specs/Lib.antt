pub mod Conditions
pub mod References
pub mod Claim
pub mod Worked
