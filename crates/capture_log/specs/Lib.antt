pub mod ByteBuffer
pub mod InnerByteBuffer
pub mod SocketPair
pub mod AuditedLog
pub mod InnerAuditedLog
pub mod BothLogs
pub mod WrittenLog
pub mod Stop
