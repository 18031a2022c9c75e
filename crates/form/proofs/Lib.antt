pub mod Renderings
pub mod OnlyRenderings
pub mod Form
