pub mod Used
pub mod Forms
pub mod Resets
pub mod Reasons
pub mod Steps
pub mod Fits
pub mod Reads
pub mod Plan
pub mod Stalls
pub mod Told
pub mod Offer
pub mod ScriptOffer
pub mod Places
pub mod ScriptLaws
pub mod OneReading
pub mod Offered
pub mod Laws
pub use Rattle.run_model.specs.chan_map as chan_map
pub use Rattle.run_model.specs as run_model
pub use Rattle.run_model.specs.trace_model as trace_model
pub use Rattle.run_model.specs.chan_map.vidi_lines as vidi_lines
