use Rattle.std.proofs.Common.{◌≡◌, ◌++◌, List, length, length-append, take, drop, ap, sym, ◌∙◌, arith}
use Rattle.std.proofs.lemmas.List.{length-take-le, take-append-drop}
use Rattle.net_instr.specs.declared.instr.Instr.{Instr}
use Rattle.net_instr.specs.Statements.{block_code, guard_code}
use Rattle.net_instr.proofs.Steps.{guard_step}
use Rattle.net_instr.proofs.statements.+statement.Goals as goal

pub push_guards-guards-preserved : goal.push_guards-guards-preserved
push_guards-guards-preserved t c =
    let l = c.guards in
    let gs = c.as_slice-guards.result.now in
    let g = c.index-guards-i.result in
    let widths = c.args.widths.now in
    let words = c.args.words in
    let start = c.args.start in
    let one : List Instr = c.push_end.new.code in
    let two : List Instr = c.push_acts.new.code in
    let three : List Instr = c.push_test.new.code in
    let xs : List Instr = block_code widths words c.args.offset g.body in
    let second : two ≡ one ++ xs = c.in_ok-push_acts.ensures in
    let third = c.in_ok-push_test.ensures one xs (sym c.len-body.ensures) second in
    let before : List Instr = l.code in
    let first = c.in_ok-push_end.ensures (take start before) (drop start before) (length-take-le start before l.invariant.start)
    (sym (take-append-drop start before)) in
    let some = length-take-le start before l.invariant.start in
    let more = ap length first ∙ length-append (take start before) _ in
    let most = ap length third ∙ length-append one _ in
    record {
      same = λ front ys h e.
          guard_step widths words c.args.offset gs l.i g front ys one two three c.guards-test.true l.invariant.inside c.index-guards-i.is
          (c.in_ok-push_end.ensures front (guard_code widths words c.args.offset (drop l.i gs) ys) h (l.invariant.same front ys h e))
          second third;
      inside = let i = l.invariant.inside in omega (arith, i);
      start = omega (arith, some, more, most);
    }
