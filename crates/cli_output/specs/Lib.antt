pub mod IoErrors
pub mod InnerIoErrors
pub mod LineBuffer
pub mod InnerLineBuffer
pub mod Line
pub mod Verdict
