pub mod Old
pub mod OldReading
pub mod OldDecoding
pub mod Migration
pub use Rattle.trace_code.specs as trace_code
pub use Rattle.trace_code.specs.trace_model as trace_model
pub use Rattle.trace_code.specs.vidi_bits as vidi_bits
