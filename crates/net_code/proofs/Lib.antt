pub mod Lists
pub mod MovedRows
pub mod MovedValues
pub mod MovedBits
pub mod MovedSizes
pub mod MaskLaws
pub mod FoundLaws
pub mod RowBits
pub mod WalkLaws
pub mod TallyLaws
pub mod TargetRows
pub use Rattle.net_design.proofs.vidi_bits_lemmas as vidi_bits_lemmas
