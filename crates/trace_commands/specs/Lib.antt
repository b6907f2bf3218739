pub mod Bursts
pub mod Migrating
pub mod Moves
pub mod Said
pub mod Traces
pub mod Written
pub use Rattle.axi_burst.specs as axi_burst
pub use Rattle.trace_edit.specs as trace_edit
pub use Rattle.vidi_answer.specs as vidi_answer
