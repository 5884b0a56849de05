pub mod Rule
pub mod Lease
pub mod Holding
pub mod Claimed
pub mod Laws
