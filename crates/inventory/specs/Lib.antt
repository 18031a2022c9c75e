pub mod Records
pub mod Order
pub mod Adding
pub mod Opening
pub mod Printed
pub mod Limits
pub mod Amounts
