pub mod Bus
