pub mod CallCounts
pub mod Comments
pub mod InnerAnswerCounts
pub mod Script
pub mod Serving
