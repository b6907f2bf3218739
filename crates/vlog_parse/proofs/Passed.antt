-- Lemmas of crates below that functions of this crate name for their goals.
pub use Rattle.vlog_item.proofs.vlog_expr_lemmas.Maps.{marked_length}
