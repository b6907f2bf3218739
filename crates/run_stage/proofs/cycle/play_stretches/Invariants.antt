use Rattle.std.proofs.Common.{◌≡◌, ◌≤◌, [], List, length}
use Rattle.chan_replayer.specs.trace_model.declared.row.Row.{Row}
use Rattle.chan_replayer.specs.trace_model.Row.{row_before}
use Rattle.net_design.specs.declared.design.Design.{Design}
use Rattle.run_stage.specs.Playing.{AreOver, IsLast}
use Rattle.run_stage.specs.Stretching.{all_rows, AreRuledStretches, BeginsBehind, IsAsked, PlayStretches}
use Rattle.run_stage.proofs.Stretching.{Going, GoingBefore}
use Rattle.run_stage.proofs.cycle.play_stretches.Given as goal

abbrev pub invariant-loop-cycle : goal.invariant-loop-cycle
invariant-loop-cycle g l = record {
  past : List (List Row);
  here : List Row;
  long : length (all_rows past here) ≡ l.cycle;
  asked : IsAsked past (length here);
  within : l.cycle ≤ l.cycles;
  stands : g.P.StretchPlayer.stands l.fn.player l.player past here;
  going : Going (g.P.StretchPlayer.ends l.fn.player) past here;
  before : GoingBefore (g.P.StretchPlayer.ends l.fn.player) past;
  plays : (d : Design) → BeginsBehind d l.map (g.S.Stage.runs l.fn.stage l.fn.stage) []
      → PlayStretches d l.map (g.P.StretchPlayer.rule l.fn.player) (g.P.StretchPlayer.turns l.fn.player) (g.S.Stage.runs l.fn.stage l.stage) l.rows.last past here;
  ruled : AreRuledStretches l.map (g.P.StretchPlayer.rule l.fn.player) (g.P.StretchPlayer.turns l.fn.player) past here;
  last_is : IsLast (row_before here (length here)) l.rows.last;
  over : AreOver l.map.channels l.rows;
  mapped : g.S.Stage.map l.stage ≡ g.S.Stage.map l.fn.stage;
  place : g.S.Stage.place l.stage ≡ g.S.Stage.place l.fn.stage;
  own : g.S.Stage.own l.stage ≡ g.S.Stage.own l.fn.stage;
  cycles : g.S.Stage.cycles l.stage ≤ l.cycle;
}
