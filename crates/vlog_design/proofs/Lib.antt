pub mod Loops
pub mod Top
pub mod Build
pub mod Found
pub mod Joined
pub mod Counted
pub use Rattle.flat_clock.proofs.flat_parts_lemmas as flat_parts_lemmas
pub use Rattle.net_order.proofs as net_order_lemmas
