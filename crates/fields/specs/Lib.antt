pub mod Field
pub mod Reading
