pub mod AnnotatedFailures
pub mod FailureKinds
pub mod Results
