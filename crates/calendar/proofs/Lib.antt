pub mod Months
pub mod Counts
pub mod Grounds
pub mod Laws
pub mod Periods
pub mod Claim
