pub mod OutputBuffer
pub mod TextOutput
pub mod Visible
pub mod InnerVisible
