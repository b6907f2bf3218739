use Rattle.std.proofs.Common.{◌≡◌, subst, arith}
use Rattle.trace_model.specs.declared.event.Kind.TheVariants.{Start}
use Rattle.trace_edit.specs.Found.{IsLastOf}
use Rattle.trace_edit.specs.Moved.{does_at}
use Rattle.trace_edit.proofs.blocking.last_start.Goals as goal

pub returns : goal.returns
returns c =
    let there : c.loop-s.s ≡ c.args.high = omega (arith, c.loop-s-test.false, c.loop-s.auto.s-end c.requires.order) in
    subst (λ k. IsLastOf (does_at Start c.args.channel c.args.packets.now) c.args.low k c.loop-s.last) there c.loop-s.invariant
