use Rattle.std.proofs.Common.{List, subst, sym}
use Rattle.trace_code.specs.declared.cursor.Cursor.{Cursor}
use Rattle.replay_run.specs.Behind.{none_yet, HasCursors}
use Rattle.replay_run.proofs.cursors.Walk.turn.Goals as goal

pub returns : goal.returns
returns c t kind all = record {
  all = all;
  named = c.named-self.ensures t kind none_yet
      (subst (λ (ks : List Cursor). HasCursors t c.args.epoch kind none_yet ks) (sym c.as_slice.ensures.value) all);
}
