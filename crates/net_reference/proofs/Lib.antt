pub mod NumberLemmas
pub mod PinLemmas
pub mod SettledParts
