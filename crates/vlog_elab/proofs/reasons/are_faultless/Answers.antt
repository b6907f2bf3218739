use Rattle.std.proofs.Common.{◌≡◌, Bool, true, false}
use Rattle.vlog_elab.specs.Reasons.{instance_consts, instance_widths}
use Rattle.vlog_elab.proofs.Firsts.{none_here}
use Rattle.vlog_elab.proofs.reasons.are_faultless.Goals as goal

never_both : (b : Bool) → b ≡ false → b ≡ true → ⊥
never_both true h t = (cc)
never_both false h t = (cc)

pub returns-then-not-is_instance_faultless : goal.returns-then-not-is_instance_faultless
returns-then-not-is_instance_faultless c = (
  (λ is. absurd (cc)),
  (λ none.
      absurd
      (never_both c.is_instance_faultless.result c.if-not-is_instance_faultless.true
      (c.is_instance_faultless.ensures.1 (
        none_here instance_consts c.args.list.now c.loop-instance.instance-index c.instance-item.result c.loop-instance-test.true c.instance-item.is
            c.loop-instance.invariant.consts none.0,
        none_here instance_widths c.args.list.now c.loop-instance.instance-index c.instance-item.result c.loop-instance-test.true c.instance-item.is
            c.loop-instance.invariant.widths none.1,
      )))),
)
