pub mod Render
