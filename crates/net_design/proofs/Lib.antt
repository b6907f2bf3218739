pub mod Rows
pub mod ExampleLaws
pub mod LawfulCode
pub mod UpdateLaws
pub mod EquationLaws
pub mod FrameLaws
pub mod TargetLaws
pub mod StateLaws
pub mod LastLaws
pub mod OneProof
mod InitialLaws
pub use Rattle.vidi_bits.proofs as vidi_bits_lemmas
