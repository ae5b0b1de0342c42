pub mod Findings
pub mod Facts
pub mod Connection
pub mod Laws
pub mod Logs
