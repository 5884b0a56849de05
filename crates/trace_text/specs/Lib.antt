pub mod Line
pub mod Reading
pub mod Trace
pub mod Checking
pub mod Codes
pub mod Recorded
pub mod RecordedLines
pub mod Forms
