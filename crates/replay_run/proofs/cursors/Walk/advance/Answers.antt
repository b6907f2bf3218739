use Rattle.std.proofs.Common.{List, ◌+◌, ◌∙◌, subst, sym}
use Rattle.std.specs.Int.{bit_at}
use Rattle.trace_code.specs.declared.cursor.Cursor.{Cursor}
use Rattle.replay_run.specs.Behind.{AreAt}
use Rattle.replay_run.proofs.Forward.{whole}
use Rattle.replay_run.proofs.cursors.Walk.advance.Goals as goal

pub returns : goal.returns
returns c t kind have are =
    let new = c.forward_all-self.new.cursors in
    let walk = c.args.self.now in
    subst (λ (ks : List Cursor). AreAt t c.args.epoch kind (λ d. have d + bit_at c.args.ends d) ks c.forward_all-self.result)
    (sym (whole walk.cursors.len new walk.cursors.items (c.forward_all-self.auto.cursors ∙ c.as_mut_slice.ensures.len)))
    (c.forward_all-self.ensures t kind have (subst (λ (ks : List Cursor). AreAt t c.args.epoch kind have ks walk.more) (sym c.as_mut_slice.ensures.value) are))
