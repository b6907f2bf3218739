pub mod Places
pub mod Names
pub mod Slots
pub mod Table
pub use Rattle.net_order.specs as net_order
pub use Rattle.net_order.specs.vidi_bits as vidi_bits
