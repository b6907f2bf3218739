use Rattle.std.proofs.Common.{◌+◌, sym, ◌∙◌, arith}
use Rattle.net_instr.proofs.Fetch.{past, stepped}
use Rattle.net_instr.proofs.machine.run_noting.Goals as goal

pub returns-then-skip-code-clause-slots : goal.returns-then-skip-code-clause-slots
returns-then-skip-code-clause-slots c =
    let l = c.go in
    let code = c.args.code.now in
    sym (past code (l.at + (1 + c.one_noted-skip.result)) c.one_noted-skip.new.slots (omega (arith, c.if-skip-code.true, c.go-test.true)))
    ∙ stepped code l.at l.slots c.one_noted-skip.new.slots c.one_noted-skip.result _ c.go-test.true c.one_noted-skip.ensures.slots
    c.one_noted-skip.ensures.skip
    ∙ l.invariant.same

pub returns-then-skip-code-clause-kept : goal.returns-then-skip-code-clause-kept
returns-then-skip-code-clause-kept c = λ h.
    let k = c.one_noted-skip.ensures.kept h in
    k.1 ∙ c.go.invariant.kept k.0

pub go-preserved : goal.go-preserved
go-preserved c =
    let l = c.go in
    let code = c.args.code.now in
    record {
      same =
          stepped code l.at l.slots c.one_noted-skip.new.slots c.one_noted-skip.result _ c.go-test.true c.one_noted-skip.ensures.slots
          c.one_noted-skip.ensures.skip
          ∙ l.invariant.same;
      inside = omega (arith, c.if-skip-code.false, c.go-test.true);
      kept = λ h. let k = c.one_noted-skip.ensures.kept h in k.1 ∙ l.invariant.kept k.0;
    }
