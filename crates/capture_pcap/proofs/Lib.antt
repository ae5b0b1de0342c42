mod Checksums
mod Options
mod AfterPackets
mod UniqueReading
mod ReaderSteps
mod UnchangedBlocks
mod BlockSteps
