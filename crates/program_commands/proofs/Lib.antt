pub mod CountedHeaders
pub mod CountersPrinted
pub mod Leaving
pub mod Lints
pub mod Said
