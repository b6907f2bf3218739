use Rattle.std.proofs.Common.{◌≡◌, length}
use Rattle.run_model.specs.Laws.{GatesOf}
use Rattle.run_model.specs.Run.{IsRunRow}
use Rattle.run_model.proofs.PlayedLaws.{Grown}
use Rattle.run_reference.specs.Given.{offers_by, gates_by}
use Rattle.run_reference.proofs.play.run_rows.Given as goal

abbrev pub invariant-loop-t : goal.invariant-loop-t
invariant-loop-t g l = record {
  grown : Grown (g.B.Block.design l.fn.block) l.map (IsRunRow l.map.channels (offers_by l.offers) (GatesOf (gates_by l.gates))) l.rows
      (g.B.Block.state l.block);
  design : g.B.Block.design l.block ≡ g.B.Block.design l.fn.block;
  count : length l.rows ≡ l.t;
}
