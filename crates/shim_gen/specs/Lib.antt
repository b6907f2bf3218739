pub mod Counting
pub mod Labels
pub mod Plain
pub mod Rows
pub mod Tables
pub use Rattle.shim_trees.specs.chan_map as chan_map
pub use Rattle.shim_trees.specs as shim_trees
pub use Rattle.shim_trees.specs.trace_model as trace_model
pub use Rattle.shim_trees.specs.vidi_lines as vidi_lines
