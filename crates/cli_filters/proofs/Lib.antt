pub mod Audits
pub mod Encodings
pub mod FramedMessages
pub mod Lines
pub mod CompleteLines
pub mod Prints
