use Rattle.std.proofs.Common.{◌≡◌}
use Rattle.run_model.specs.Step.{IsAfter}
use Rattle.run_reference.proofs.play.cycles.Given as goal

abbrev pub invariant-loop-i : goal.invariant-loop-i
invariant-loop-i g l = record {
  after : IsAfter (g.B.Block.design l.fn.block) l.pins l._i (g.B.Block.state l.fn.block) (g.B.Block.state l.block);
  design : g.B.Block.design l.block ≡ g.B.Block.design l.fn.block;
}
