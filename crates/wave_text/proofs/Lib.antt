pub mod Joined
pub mod Inside
pub mod Keys
pub mod Fits
pub mod Printed
pub mod ReadLines
pub mod Digits
pub mod Widths
pub mod Nets
pub mod Rows
pub mod Law
pub mod Told
pub mod DigitLaws
pub mod Eights
pub mod Fronts
pub mod RowText
mod Flick
pub use Rattle.vlog_lex.proofs as vlog_lex_lemmas
pub use Rattle.vidi_lines.proofs as vidi_lines_lemmas
pub use Rattle.text_page.proofs as text_page_lemmas
