pub mod AnnotatedFailure
pub mod CarriedLine
pub mod Counted
pub mod FailureKind
pub mod Phrases
