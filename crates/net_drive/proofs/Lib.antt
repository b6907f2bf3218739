pub mod Exact
pub mod NoneFound
pub mod Tallies
pub use Rattle.net_code.proofs as net_code_lemmas
pub use Rattle.net_code.proofs.vidi_bits_lemmas as vidi_bits_lemmas
