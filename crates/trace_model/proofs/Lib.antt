pub mod CountingLemmas
pub mod MaskLemmas
pub mod FlightLemmas
pub mod EpochLemmas
pub mod ContentsLemmas
pub mod RowLemmas
pub mod RowLaws
pub mod TraceLaws
pub mod LengthLemmas
pub mod Examples
pub use Rattle.vidi_bits.proofs as vidi_bits_lemmas
