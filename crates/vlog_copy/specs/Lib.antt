pub use Rattle.vlog_tree.specs.vidi_bits as vidi_bits
