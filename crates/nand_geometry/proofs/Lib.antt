mod Worked
pub mod ChecksumLemmas
pub mod FieldLemmas
pub mod LimitLemmas
pub mod Numbered
pub mod PageLemmas
pub mod ReadingLemmas
pub mod RoundTripLemmas
pub mod RowLemmas
