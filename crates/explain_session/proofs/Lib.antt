pub mod Clocks
pub mod Ended
pub mod EntryFailures
pub mod RepairRows
pub mod RepairedSessions
