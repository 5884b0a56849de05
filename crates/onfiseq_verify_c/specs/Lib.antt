pub mod Verify
pub mod Run
