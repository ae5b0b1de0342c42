pub mod SkippedPackets
pub mod VerdictLine
pub mod VerdictReport
pub mod ReportState
pub mod InnerReportState
