use Rattle.std.proofs.Common.{rules, arith, ◌-◌, map, sym, ap, ◌∙◌}
use Rattle.vlog_expr.specs.Marks.{all_marked}
use Rattle.vlog_expr.specs.Reader.{more_at}
use Rattle.vlog_expr.proofs.Maps.{map_snoc}
use Rattle.vlog_expr.proofs.Turns.{more_turn}
use Rattle.vlog_stmt.proofs.listed.more_of.Goals as goal

pub loop-left-preserved : goal.loop-left-preserved
loop-left-preserved g c =
    let R = g.R.ListReader in
    let step = more_turn (R.one_at c.args.fuel) c.loop-left.left (c.loop-left.left - 1) (map R.plain c.loop-left.front)
    (all_marked c.loop-left.rest.now)
    (c.in-Some.field-0-0, all_marked c.in-Some.behind.now) (R.plain c.in_ok-one.one, all_marked c.in_ok-one.behind.now)
    (omega arith) (search rules) (search rules) in
    let longer = ap (λ xs. map R.plain xs) c.in_ok-push.ensures.ok ∙ map_snoc R.plain c.loop-left.front c.in_ok-one.one in (
      omega arith,
      ap (λ xs. more_at (R.one_at c.args.fuel) (c.loop-left.left - 1) xs (all_marked c.in_ok-one.behind.now)) longer ∙ sym step
          ∙ c.loop-left.invariant.1,
    )
