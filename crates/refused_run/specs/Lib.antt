pub mod Stand
pub mod Course
