mod LoggedEvents
mod Logs
mod Addresses
mod ByteBuffers
mod WrittenLogs
