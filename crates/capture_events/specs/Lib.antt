pub mod ConnectionItems
pub mod LoggedEvents
pub mod InnerLoggedEvents
pub mod TrackedConnection
pub mod InnerTrackedConnection
pub mod ConnectionState
pub mod InnerConnectionState
