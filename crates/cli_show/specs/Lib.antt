pub mod InnerReadAhead
pub mod Show
pub mod InnerShow
pub mod ShowErrors
pub mod InnerShowErrors
pub mod ShowHex
pub mod InnerShowHex
