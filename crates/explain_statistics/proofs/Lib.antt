pub mod CountedFailures
pub mod Grouping
pub mod Halvings
pub mod Outcomes
