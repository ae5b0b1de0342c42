mod Absorbed
mod Arriving
mod KeepAlives
mod Awaited
mod AfterOffsets
mod ApartRuns
mod CarriedBytes
pub mod MonotonicTimes
pub mod Connecting
mod CutOff
mod Differing
mod Draining
mod Ends
mod Finishing
mod StreamPrefixes
mod ConnectedPackets
mod KeptCells
mod StoredCells
mod StoredRuns
pub mod LastingFacts
pub mod Later
mod Lists
mod Longer
mod Nearest
mod Octets
mod LaterEvents
mod Numbered
mod StreamChunks
mod Queue
mod VisibleMessages
mod Sizes
mod Slicing
mod SmallCaptures
mod EmitterSteps
mod Stopped
mod SettledEvents
mod Evidence
pub mod EmittedEvents
mod Timing
mod EmittedPrefixes
mod EmittedMessages
mod DeliveredPackets
pub mod UpToDown
mod Waited
mod WaitingCells
mod WatchedBytes
mod CompleteStreams
