pub mod Tiles
pub mod Framed
