pub mod Rule
pub mod Passes
pub mod Holding
pub mod Submitted
pub mod Closed
