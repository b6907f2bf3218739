use Rattle.std.proofs.Common.{ap, ◌∙◌, replicate, arith}
use Rattle.net_design.specs.declared.design.Register.{Register}
use Rattle.net_design.proofs.InitialLaws.{none_entered, register_step, no_net}
use Rattle.net_design.proofs.initial.initial_numbers.Goals as goal

abbrev none : Register
none = record { net = 0; held = 0; initial = 0 }

pub registers-init : goal.registers-init
registers-init c = record {
  same = c.in_ok-numbers.ensures ∙ ap (λ n. replicate n 0) c.len.ensures ∙ none_entered c.as_slice-registers.result.now c.args.design.now.nets;
  inside = omega arith;
}

pub registers-preserved-then-register-len : goal.registers-preserved-then-register-len
registers-preserved-then-register-len c =
    let l = c.registers in
    record {
      same =
          c.set.ensures ∙ register_step c.as_slice-registers.result.now l.i none c.args.design.now.nets l.numbers c.registers-test.true l.invariant.inside
          l.invariant.same;
      inside = omega (arith, l.invariant.inside);
    }

pub registers-preserved : goal.registers-preserved
registers-preserved c =
    let l = c.registers in
    record {
      same =
          no_net c.as_slice-registers.result.now l.i none c.args.design.now.nets l.numbers c.registers-test.true l.invariant.inside
          l.invariant.same (omega (arith, c.if-register-len.false, c.len-in-registers.ensures));
      inside = omega (arith, l.invariant.inside);
    }
