pub mod Rows
pub mod Fields
pub mod Times
pub mod Notes
pub mod Table
pub mod Body
pub mod Shown
