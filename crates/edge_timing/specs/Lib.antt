pub mod Times
pub mod Lines
pub mod Judged
pub mod Pauses
pub mod Watched
pub mod Codes
