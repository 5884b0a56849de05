pub mod Operation
pub mod Listing
pub mod Laws
pub mod AtWork
pub mod Openings
pub mod Folding
pub mod LastWork
pub mod Polling
