use Rattle.std.proofs.Common.{rules, arith, ◌-◌, List, map, sym, ap, ◌∙◌}
use Rattle.vlog_tree.specs.declared.module.Item.{Item}
use Rattle.vlog_tree.specs.Tree.{ItemOf}
use Rattle.vlog_tree.specs.Plain.{plain_item}
use Rattle.vlog_item.specs.vlog_expr.Marks.{all_marked}
use Rattle.vlog_parse.specs.FileReader.{items_at}
use Rattle.vlog_parse.proofs.Maps.{items_snoc}
use Rattle.vlog_parse.proofs.Turns.{items_turn}
use Rattle.vlog_parse.proofs.module.items_of.Goals as goal

pub loop-left-preserved : goal.loop-left-preserved
loop-left-preserved c =
    let turn = items_turn c.args.fuel c.loop-left.left (c.loop-left.left - 1) (map plain_item c.loop-left.items)
    (all_marked c.loop-left.rest.now)
    (plain_item c.in_ok-item-in-None.item, all_marked c.in_ok-item-in-None.behind.now)
    (omega arith) (search rules) (search rules) in
    let longer = ap (λ (xs : List Item). map plain_item xs) c.in_ok-push-in-None.ensures.ok
    ∙ items_snoc c.loop-left.items c.in_ok-item-in-None.item in (
      omega arith,
      ap (λ (xs : List (ItemOf _)). items_at c.args.fuel (c.loop-left.left - 1) xs (all_marked c.in_ok-item-in-None.behind.now))
          longer ∙ sym turn ∙ c.loop-left.invariant.1,
    )
