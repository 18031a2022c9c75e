pub mod Reference
pub mod Conditions
pub mod Claim
pub mod History
pub mod ColdValues
pub mod Numbers
