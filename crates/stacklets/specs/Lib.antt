pub mod Tops
pub mod Frames
pub mod Layout
