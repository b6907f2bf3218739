use Rattle.std.proofs.Common.{◌-◌, ◌≤◌, arith}
use Rattle.net_instr.proofs.Steps.{slots_left, slots_next, width_next, width_drop, store_step}
use Rattle.net_instr.proofs.statements.push_stores.Goals as goal

pub overflow_sub-t : goal.overflow_sub-t
overflow_sub-t c =
    let l = c.places in
    let p = c.index-target-i.result in
    let h = slots_left c.args.target.now l.i p l.t c.args.t c.args.end c.places-test.true l.invariant.inside c.index-target-i.is
    l.invariant.slots c.requires.end in
    omega (arith, h, c.index_slots-t.ensures)

pub overflow_add-rest : goal.overflow_add-rest
overflow_add-rest c =
    let l = c.places in
    let target = c.args.target.now in
    let sum = width_next target l.i c.index-target-i.result l.rest c.place_width-rest.result c.places-test.true l.invariant.inside
    c.index-target-i.is l.invariant.rest c.place_width-rest.ensures in
    let most = width_drop (l.i - 1) target in
    let wide = c.requires.wide in
    omega (arith, sum, most, wide)

pub places-preserved : goal.places-preserved
places-preserved c =
    let l = c.places in
    let target = c.args.target.now in
    let p = c.index-target-i.result in
    let r = c.index_slots-t.result in
    let some = c.places-test.true in
    let is = c.index_slots-t.ensures in
    let h = slots_left target l.i p l.t c.args.t c.args.end some l.invariant.inside c.index-target-i.is l.invariant.slots c.requires.end in
    let few : r ≤ l.t = omega (arith, h, is) in
    record {
      same = store_step c.args.widths.now c.args.words c.args.offset target l.i p l.t r l.rest l.code c.push_store.new.code c.args.code.now
          some l.invariant.inside c.index-target-i.is is few l.invariant.rest l.invariant.same c.in_ok-push_store.ensures;
      inside = let i = l.invariant.inside in omega (arith, i);
      slots = slots_next target l.i p l.t r c.args.end some l.invariant.inside c.index-target-i.is is few l.invariant.slots;
      rest = width_next target l.i p l.rest c.place_width-rest.result some l.invariant.inside c.index-target-i.is l.invariant.rest
          c.place_width-rest.ensures;
    }
