pub mod LogNotes
pub mod NextEvent
