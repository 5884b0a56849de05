pub mod Continues
pub mod Read
