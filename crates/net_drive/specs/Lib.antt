pub mod Drive
pub mod Laws
pub mod Tallied
pub use Rattle.net_code.specs as net_code
pub use Rattle.net_code.specs.vidi_bits as vidi_bits
