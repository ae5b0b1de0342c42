pub mod Clock
pub mod EntryFailure
pub mod InnerEntryFailure
pub mod RepairSteps
pub mod InnerRepairSteps
pub mod RepairedLines
pub mod InnerRepairedLines
pub mod RepairedSession
