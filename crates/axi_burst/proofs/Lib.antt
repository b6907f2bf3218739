pub mod NextHead
pub mod TransferParts
pub mod Fitting
pub mod Ids
pub mod HeadTable
pub mod TurnTable
pub mod LastBeats
pub mod TakenLaws
pub mod DoneLaws
pub mod LineLaws
pub mod FaultLoops
pub mod Beats
pub mod BoundPorts
pub mod Whole
mod ReadExamples
pub use Rattle.vidi_lines.proofs as vidi_lines_lemmas
pub use Rattle.trace_model.proofs as trace_model_lemmas
