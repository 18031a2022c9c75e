pub mod Near
pub mod Asked
