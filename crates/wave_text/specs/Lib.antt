pub mod Digits
pub mod Names
pub mod Parts
pub mod Wave
pub mod Text
pub mod Reading
pub mod Steps
pub mod Places
pub mod Matching
pub mod MatchingLaws
pub mod Example
pub use Rattle.vlog_lex.specs as vlog_lex
pub use Rattle.vidi_lines.specs as vidi_lines
pub use Rattle.text_page.specs as text_page
