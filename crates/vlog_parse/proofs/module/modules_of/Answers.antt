use Rattle.std.proofs.Common.{rules, arith, ◌-◌, List, map, sym, ap, ◌∙◌}
use Rattle.vlog_tree.specs.declared.module.Module.{Module}
use Rattle.vlog_tree.specs.Tree.{ModuleOf}
use Rattle.vlog_tree.specs.Plain.{plain_module}
use Rattle.vlog_item.specs.vlog_expr.Marks.{all_marked}
use Rattle.vlog_parse.specs.FileReader.{modules_at}
use Rattle.vlog_parse.proofs.Maps.{modules_snoc}
use Rattle.vlog_parse.proofs.Turns.{modules_turn, marked_some}
use Rattle.vlog_parse.proofs.module.modules_of.Goals as goal

pub loop-left-preserved : goal.loop-left-preserved
loop-left-preserved c =
    let turn = modules_turn c.args.fuel c.loop-left.left (c.loop-left.left - 1) (map plain_module c.loop-left.front)
    (all_marked c.loop-left.rest.now)
    (plain_module c.in_ok-module.module, all_marked c.in_ok-module.behind.now)
    (omega arith) (marked_some c.loop-left.rest.now (search rules)) (search rules) in
    let longer = ap (λ (xs : List Module). map plain_module xs) c.in_ok-push.ensures.ok
    ∙ modules_snoc c.loop-left.front c.in_ok-module.module in (
      omega arith,
      ap (λ (xs : List (ModuleOf _)). modules_at c.args.fuel (c.loop-left.left - 1) xs (all_marked c.in_ok-module.behind.now))
          longer ∙ sym turn ∙ c.loop-left.invariant.1,
    )
