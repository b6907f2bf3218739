use Rattle.std.proofs.Common.{◌≡◌, List, ◌++◌, All, drop}
use Rattle.net_design.specs.vidi_bits.Number.{IsWidth}
use Rattle.net_design.specs.Sized.{IsSizedBlock, AreSizedGuards}
use Rattle.net_design.specs.declared.values.Update.{Update}
use Rattle.net_design.specs.Updates.{block_updates, guard_updates}
use Rattle.net_reference.proofs.statement.+statements.Given as goal

abbrev pub invariant-acts_updates-loop-act : goal.invariant-acts_updates-loop-act
invariant-acts_updates-loop-act l = record {
  same : l.out ++ block_updates l.timing (drop l.act-index l.act-items) l.now ≡ block_updates l.timing l.acts l.values;
  sized : All (λ (u : Update). IsWidth u.width) l.out;
  acts : IsSizedBlock (drop l.act-index l.act-items);
}

abbrev pub invariant-first_true-loop-guard : goal.invariant-first_true-loop-guard
invariant-first_true-loop-guard l = record {
  same : (us : List Update) → guard_updates l.timing (drop l.guard-index l.guard-items) us l.values
      ≡ guard_updates l.timing l.guards us l.values;
  guards : AreSizedGuards (drop l.guard-index l.guard-items);
}
