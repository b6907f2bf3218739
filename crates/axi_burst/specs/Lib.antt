pub mod Forms
pub mod Kinds
pub mod Reading
pub mod Ports
pub mod Binding
pub mod Transfers
pub mod Bursts
pub mod Passes
pub mod Sides
pub mod Text
pub mod Example
pub mod Heads
pub mod HeadTable
pub mod Counted
pub mod TurnTable
pub use Rattle.trace_model.specs as trace_model
pub use Rattle.vidi_lines.specs as vidi_lines
