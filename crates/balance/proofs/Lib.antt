pub mod Behind
pub mod Answers
pub mod Distance
pub mod Digits
