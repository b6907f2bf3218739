pub mod Alike
pub mod Answered
pub mod Faultless
pub mod Firsts
pub mod Fits
pub mod KindExamples
pub mod Lists
pub mod Literals
pub mod Meanings
pub mod Numbers
pub mod Parts
pub mod Reaches
pub mod Repeats
pub mod Rests
pub mod Shifts
pub mod Sized
pub mod Tables
pub mod Totals
pub mod WidthExamples
mod Passed
pub use Rattle.vlog_tree.proofs.vidi_bits_lemmas as vidi_bits_lemmas
pub use Rattle.vlog_tree.proofs.vlog_lex_lemmas as vlog_lex_lemmas
