pub mod Course
pub mod Standing
pub mod Recording
pub mod Laws
pub mod ScriptLaws
pub use Rattle.env_script.specs as env_script
pub use Rattle.room_ledger.specs as room_ledger
pub use Rattle.trace_code.specs as trace_code
pub use Rattle.vidi_io.specs as vidi_io
