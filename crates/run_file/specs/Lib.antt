pub mod Line
pub mod Told
pub mod Shown
pub mod Run
