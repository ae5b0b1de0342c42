mod ContinuedLogs
mod Firsts
mod FollowingLines
mod FormattedLines
mod LineFilters
mod ProcessedLines
mod Verdicts
