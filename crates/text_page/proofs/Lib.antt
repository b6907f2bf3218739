pub mod Printed
pub mod Items
pub use Rattle.vidi_io.proofs as vidi_io_lemmas
