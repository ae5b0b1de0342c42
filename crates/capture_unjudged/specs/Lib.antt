pub mod Message
pub mod Sets
pub mod Devices
pub mod Unjudged
pub mod Line
pub mod UnjudgedOutput
