use Rattle.std.proofs.Common.{◌+◌, sym, ◌∙◌, arith}
use Rattle.net_instr.proofs.Fetch.{past, stepped}
use Rattle.net_instr.proofs.machine.run_code.Goals as goal

pub returns-then-skip-code : goal.returns-then-skip-code
returns-then-skip-code c =
    let l = c.go in
    let code = c.args.code.now in
    sym (past code (l.at + (1 + c.one-skip.result)) c.one-skip.new.slots (omega (arith, c.if-skip-code.true, c.go-test.true)))
    ∙ stepped code l.at l.slots c.one-skip.new.slots c.one-skip.result _ c.go-test.true c.one-skip.ensures.slots c.one-skip.ensures.skip
    ∙ l.invariant.same

pub go-preserved : goal.go-preserved
go-preserved c =
    let l = c.go in
    let code = c.args.code.now in
    record {
      same =
          stepped code l.at l.slots c.one-skip.new.slots c.one-skip.result _ c.go-test.true c.one-skip.ensures.slots
          c.one-skip.ensures.skip
          ∙ l.invariant.same;
      inside = omega (arith, c.if-skip-code.false, c.go-test.true);
    }
