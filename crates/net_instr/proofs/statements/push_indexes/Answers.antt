use Rattle.std.proofs.Common.{◌≤◌, arith}
use Rattle.net_instr.proofs.Steps.{slots_left, slots_next, index_step}
use Rattle.net_instr.proofs.statements.push_indexes.Goals as goal

pub overflow_sub-t : goal.overflow_sub-t
overflow_sub-t c =
    let l = c.places in
    let p = c.index-target-i.result in
    let h = slots_left c.args.target.now l.i p l.t c.args.t c.args.end c.places-test.true l.invariant.inside c.index-target-i.is
    l.invariant.slots c.requires.end in
    omega (arith, h, c.index_slots-t.ensures)

pub places-preserved : goal.places-preserved
places-preserved c =
    let l = c.places in
    let target = c.args.target.now in
    let p = c.index-target-i.result in
    let r = c.index_slots-t.result in
    let some = c.places-test.true in
    let is = c.index_slots-t.ensures in
    let h = slots_left target l.i p l.t c.args.t c.args.end some l.invariant.inside c.index-target-i.is l.invariant.slots c.requires.end in
    let few : r ≤ l.t = omega (arith, h, is) in
    let slots = slots_next target l.i p l.t r c.args.end some l.invariant.inside c.index-target-i.is is few l.invariant.slots in
    record {
      same = index_step c.args.widths.now c.args.words target l.i p l.t r l.code c.push_index.new.code c.args.code.now some
          l.invariant.inside c.index-target-i.is is few l.invariant.same c.in_ok-push_index.ensures;
      inside = let i = l.invariant.inside in omega (arith, i);
      slots = slots;
    }
