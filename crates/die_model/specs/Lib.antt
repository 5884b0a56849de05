pub mod Pages
pub mod Die
pub mod Standing
pub mod Image
pub mod Loading
