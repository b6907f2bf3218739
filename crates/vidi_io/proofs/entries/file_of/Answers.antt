use Rattle.std.proofs.Common.{cond, Some, None, sym, ap, ◌∙◌}
use Rattle.vidi_io.proofs.Names.{found_file, no_file}
use Rattle.vidi_io.proofs.entries.file_of.Goals as goal

pub returns-in_err-i : goal.returns-in_err-i
returns-in_err-i c = rw c.from_residual.ensures (sym (no_file c.args.entries.now c.args.name.now c.in_err-i.ensures))

pub returns-then-entry : goal.returns-then-entry
returns-then-entry c =
    sym (found_file c.args.entries.now c.args.name.now c.in_ok-i.i c.index-entries-i.result c.in_ok-i.ensures c.index-entries-i.is
    ∙ ap (λ t. cond t (Some c.index-entries-i.result.bytes.items) None) c.if-entry.true ∙ ap Some (sym c.as_slice.ensures.value))

pub returns-else-entry : goal.returns-else-entry
returns-else-entry c =
    sym (found_file c.args.entries.now c.args.name.now c.in_ok-i.i c.index-entries-i.result c.in_ok-i.ensures c.index-entries-i.is
    ∙ ap (λ t. cond t (Some c.index-entries-i.result.bytes.items) None) c.if-entry.false)
