use Rattle.std.proofs.Common.{◌≡◌, map, drop, ap, sym, subst, ◌∙◌, ◌+◌, arith, refl}
use Rattle.std.specs.List.{flat_map}
use Rattle.vlog_tree.specs.Plain.{plain_item}
use Rattle.flat_parts.specs.vlog_hierarchy.Plain.{plain_path}
use Rattle.flat_parts.specs.vlog_size.declared.scope.Scope.{Scope}
use Rattle.flat_parts.specs.vlog_scope.Scope.{after_item}
use Rattle.flat_parts.specs.vlog_driver.Placed.{Placed, placed}
use Rattle.flat_parts.specs.vlog_driver.Duties.{Does, DoMore}
use Rattle.flat_parts.specs.Drivers.{IsBlockOf}
use Rattle.flat_drivers.specs.Latches.{placed_latches}
use Rattle.flat_drivers.specs.Seated.{seats_in}
use Rattle.flat_drivers.specs.Adding.{BlocksMore, placed_in, blocks_in, IsFaultlessPlaced}
use Rattle.flat_drivers.proofs.Told.{told_next}
use Rattle.flat_drivers.proofs.Added.{item_split, items_over, latches_there, duties_there, blocks_there, code_next, code_done, first_placed, faultless_there}
use Rattle.flat_drivers.proofs.seat.add_items.Goals as goal

pub add_placed-requires-clause-faultless : goal.add_placed-requires-clause-faultless
add_placed-requires-clause-faultless c =
    let s = c.args.scope.now in
    let t = c.loop-item.scope in
    faultless_there c.args.base s t (record { declared = t.declared; item = plain_item c.item-item.result }) c.loop-item.invariant.scope
    (first_placed (IsFaultlessPlaced c.args.base s) s.params t.declared (after_item s.params t.declared (plain_item c.item-item.result))
    c.args.items.now c.loop-item.item-index c.item-item.result c.loop-item-test.true c.item-item.is refl c.loop-item.invariant.faultless).0

pub loop-item-preserved : goal.loop-item-preserved
loop-item-preserved c =
    let s = c.args.scope.now in
    let t = c.loop-item.scope in
    let xs = seats_in c.args.flat.now in
    let path = plain_path c.args.path.now in
    let base = c.args.base in
    let items = c.args.items.now in
    let i = c.loop-item.item-index in
    let item = c.item-item.result in
    let k = t.declared in
    let n = c.declared_after-scope.result in
    let inv = c.loop-item.invariant in
    let p : Placed = record { declared = k; item = plain_item item } in
    let after : n ≡ after_item s.params k (plain_item item) =
    c.declared_after-scope.ensures ∙ ap (λ (u : Scope). after_item u.params k (plain_item item)) inv.scope in
    record {
      scope = ap (λ (u : Scope). record u { declared = n }) inv.scope;
      faultless = (first_placed (IsFaultlessPlaced base s) s.params k n items i item c.loop-item-test.true c.item-item.is after
          inv.faultless).1;
      told = told_next (placed_latches s p) (flat_map (placed_latches s) (placed s.params n (map plain_item (drop (i + 1) items))))
          (flat_map (placed_latches s) (placed s.params k (map plain_item (drop i items))))
          (flat_map (placed_latches s) (placed s.params s.declared (map plain_item items)))
          (item_split (placed_latches s) s.params k n items i item c.loop-item-test.true c.item-item.is after)
          (sym (latches_there s t p inv.scope) ∙ c.in_ok-add_placed.ensures.told) inv.told;
      drivers = code_next Does (placed_in xs path base s p)
          (flat_map (placed_in xs path base s) (placed s.params n (map plain_item (drop (i + 1) items))))
          (flat_map (placed_in xs path base s) (placed s.params k (map plain_item (drop i items))))
          (flat_map (placed_in xs path base s) (placed s.params s.declared (map plain_item items)))
          c.loop-item.out.drivers c.add_placed.new.out.drivers c.args.out.now.drivers
          (item_split (placed_in xs path base s) s.params k n items i item c.loop-item-test.true c.item-item.is after)
          (subst (λ ds. DoMore ds c.loop-item.out.drivers c.add_placed.new.out.drivers) (duties_there xs path base s t p inv.scope)
          c.in_ok-add_placed.ensures.drivers) inv.drivers;
      blocks = code_next IsBlockOf (blocks_in base s p)
          (flat_map (blocks_in base s) (placed s.params n (map plain_item (drop (i + 1) items))))
          (flat_map (blocks_in base s) (placed s.params k (map plain_item (drop i items))))
          (flat_map (blocks_in base s) (placed s.params s.declared (map plain_item items)))
          c.loop-item.out.blocks c.add_placed.new.out.blocks c.args.out.now.blocks
          (item_split (blocks_in base s) s.params k n items i item c.loop-item-test.true c.item-item.is after)
          (subst (λ bs. BlocksMore bs c.loop-item.out.blocks c.add_placed.new.out.blocks) (blocks_there base s t p inv.scope)
          c.in_ok-add_placed.ensures.blocks) inv.blocks;
    }

pub returns-clause-drivers : goal.returns-clause-drivers
returns-clause-drivers c =
    let s = c.args.scope.now in
    let f = placed_in (seats_in c.args.flat.now) (plain_path c.args.path.now) c.args.base s in
    code_done Does (flat_map f (placed s.params c.loop-item.scope.declared (map plain_item (drop c.loop-item.item-index c.args.items.now))))
    (flat_map f (placed s.params s.declared (map plain_item c.args.items.now))) c.loop-item.out.drivers c.args.out.now.drivers
    (items_over f s.params c.loop-item.scope.declared c.args.items.now c.loop-item.item-index (omega (arith, c.loop-item-test.false)))
    c.loop-item.invariant.drivers
