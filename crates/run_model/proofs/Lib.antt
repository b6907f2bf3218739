pub mod Contents
pub mod PinLemmas
pub mod RowParts
pub mod PlayedLaws
pub mod Stays
pub mod OneEpoch
pub mod RunLaws
pub mod EventPlaces
pub mod ReplayLaws
pub mod Circle
pub mod MapLaws
pub mod JoinedLaws
pub mod Turned
pub mod Bound
pub mod Played
pub mod Unstable
pub mod Ends
pub mod Stops
pub mod Deciding
pub use Rattle.chan_map.proofs.trace_model_lemmas as trace_model_lemmas
pub use Rattle.chan_map.proofs.vidi_bits_lemmas as vidi_bits_lemmas
