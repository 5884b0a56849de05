pub mod Polls
pub mod Judged
pub mod Setup
pub mod Steps
pub mod Planned
pub mod Plans
