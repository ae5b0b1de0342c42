pub mod Lists
pub mod LoggedMore
pub mod NextSegment
pub mod ConnectionStates
