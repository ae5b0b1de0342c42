pub mod HexMessages
pub mod HexRuns
pub mod HexEncoding
pub mod HexSteps
pub mod LineEnds
pub mod NextFrames
pub mod Runs
