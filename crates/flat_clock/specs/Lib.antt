pub mod Clock
pub use Rattle.flat_parts.specs as flat_parts
