use Rattle.std.proofs.Common.{◌≡◌, ◌++◌, All, take}
use Rattle.net_design.specs.vidi_bits.Number.{IsWidth}
use Rattle.net_design.specs.declared.values.Update.{Update}
use Rattle.net_reference.proofs.statement.append.Given as goal

abbrev pub invariant-loop-update : goal.invariant-loop-update
invariant-loop-update l = record {
  same : l.out ≡ l.initial.out ++ take l.update-index l.more;
  sized : All
      (λ (u : Update). IsWidth u.width) l.out;
}
