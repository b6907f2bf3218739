pub mod Steps
pub mod EnterLaws
pub mod PlaceLaws
pub mod SlotLaws
pub mod ShownLaws
pub mod SimLaws
pub mod NameLaws
pub mod LoadLaws
pub mod TableLaws
pub mod SeenLaws
pub use Rattle.net_order.proofs as net_order_lemmas
pub use Rattle.net_order.proofs.vidi_bits_lemmas as vidi_bits_lemmas
