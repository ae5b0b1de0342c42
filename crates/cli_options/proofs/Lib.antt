pub mod RequestedOptions
pub mod Described
pub mod Ranges
