use Rattle.std.proofs.Common.{◌≡◌, length}
use Rattle.run_model.specs.Replay.{IsReplayRow}
use Rattle.run_model.proofs.PlayedLaws.{Grown}
use Rattle.run_reference.proofs.replay.replay_rows.Given as goal

abbrev pub invariant-loop-t : goal.invariant-loop-t
invariant-loop-t g l = record {
  grown : Grown (g.B.Block.design l.fn.block) l.map (IsReplayRow l.map.channels l.packets) l.rows (g.B.Block.state l.block);
  design : g.B.Block.design l.block ≡ g.B.Block.design l.fn.block;
  count : length l.rows ≡ l._t;
}
