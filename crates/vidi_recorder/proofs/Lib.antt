pub mod Lengths
pub mod Passed
pub mod Pushing
pub mod Gated
pub mod Runs
pub mod Played
pub mod Kept
pub mod Going
pub mod Turning
pub mod Short
pub mod Ends
pub mod Turns
pub mod Keeping
pub mod ScriptKept
pub use Rattle.vidi_io.proofs as vidi_io_lemmas
