pub mod Escapes
pub mod OutputBuffers
