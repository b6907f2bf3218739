use Rattle.std.proofs.Common.{List, [], take, drop}
use Rattle.net_design.specs.declared.act.Act.{Act}
use Rattle.net_code.specs.declared.code_bits.Found.{Found}
use Rattle.net_design.specs.Sized.{IsSizedBlock, AreSizedGuards}
use Rattle.net_code.specs.Found.{AfterArms}
use Rattle.net_code.proofs.WalkLaws.{WalksRest}
use Rattle.net_code.proofs.code_bits.+walks.Given as goal

abbrev pub invariant-acts_bits-loop-act : goal.invariant-acts_bits-loop-act
invariant-acts_bits-loop-act l = record {
  walked : WalksRest l.timing l.acts (drop l.act-index l.act-items) l.initial.found l.found l.initial.fresh l.fresh;
  sized : IsSizedBlock (drop l.act-index l.act-items);
}

abbrev pub invariant-guards_bits-loop-guard : goal.invariant-guards_bits-loop-guard
invariant-guards_bits-loop-guard l = record {
  walked : (others : List Act) (before : Found) → AfterArms l.timing [] others before l.fn.found l.fn.all
      → AfterArms l.timing (take l.guard-index l.guards) others before l.found l.all;
  sized : AreSizedGuards (drop l.guard-index l.guard-items);
}
