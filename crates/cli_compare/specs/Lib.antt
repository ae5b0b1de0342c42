pub mod CompareErrors
pub mod FactLines
pub mod FailureLines
pub mod Comparison
