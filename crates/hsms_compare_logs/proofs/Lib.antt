pub mod Inputs
pub mod LineEntries
pub mod Openings
pub mod LogSteps
pub mod Refusals
pub mod KeptEntries
