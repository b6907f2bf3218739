use Rattle.std.proofs.Common.{List, subst, sym}
use Rattle.trace_code.specs.declared.cursor.Cursor.{Cursor}
use Rattle.replay_run.specs.Behind.{none_yet, HasCursors}
use Rattle.replay_run.proofs.cursors.Walk.open.Goals as goal

pub returns : goal.returns
returns c t is long =
    let all = c.in_ok-cursors.ensures t is long in
    record {
      all = all;
      named = c.named-more.ensures t c.args.kind none_yet
          (subst (λ (ks : List Cursor). HasCursors t 0 c.args.kind none_yet ks) (sym c.as_slice.ensures.value) all);
    }
