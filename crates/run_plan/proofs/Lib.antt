pub mod Lists
pub mod DiesFit
pub mod JobLines
pub mod Refusing
pub mod Resting
pub mod JobPlans
pub mod Stepping
pub mod Settings
