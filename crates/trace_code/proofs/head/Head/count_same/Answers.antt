use Rattle.std.proofs.Common.{◌≡◌, ◌+◌, ◌-◌, ◌*◌, length, take, drop, refl, subst}
use Rattle.trace_code.specs.Heads.{IsHead}
use Rattle.trace_code.proofs.Ahead.{ahead-on, alike-on}
use Rattle.trace_code.proofs.head.Head.count_same.Goals as goal

pub loop-same-preserved : goal.loop-same-preserved
loop-same-preserved c =
    let h = c.args.self.now in
    let n = length h.sizes.items in
    let s = c.loop-same.same in
    let here = c.loop-same.here.now in
    let rest = c.args.rest.now in
    let next = take (length here - h.len) (drop h.len here) in
    let at : next ≡ drop ((s + 1) * h.len) rest = ahead-on s h.len rest here next c.loop-same.invariant.here refl in
    record {
      here = at;
      alike = alike-on n h.reset h.starts h.ends h.len s rest c.loop-same.invariant.alike
          (subst (IsHead n h.reset h.starts h.ends) at (c.is_of.ensures c.if-not-is_of.false));
    }
