pub mod Lazy
pub mod Cause
pub mod CauseRows
pub mod Calm
pub mod Counters
pub mod Playing
pub mod Refusals
pub mod Plain
