use Rattle.std.proofs.Common.{◌≡◌, ◌≤◌, ◌+◌, ◌-◌, ◌^◌, min, drop}
use Rattle.vlog_elab.specs.Plain.{plain_instances}
use Rattle.vlog_elab.specs.Reasons.{word_total}
use Rattle.vlog_elab.proofs.reasons.word_total.Given as goal

abbrev pub invariant-loop-instance : goal.invariant-loop-instance
invariant-loop-instance l = record {
  sum : min (l.words + word_total (plain_instances (drop l.instance-index l.list))) (2 ^ 64 - 1)
      ≡ min (word_total (plain_instances l.list)) (2 ^ 64 - 1);
  small : l.words ≤ 2 ^ 64 - 1;
}
