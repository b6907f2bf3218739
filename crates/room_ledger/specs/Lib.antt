pub mod Reservation
pub mod Gates
pub mod Raising
pub mod Ledger
pub mod Laws
pub mod Refusal
pub use Rattle.trace_model.specs as trace_model
pub use Rattle.trace_model.specs.vidi_bits as vidi_bits
