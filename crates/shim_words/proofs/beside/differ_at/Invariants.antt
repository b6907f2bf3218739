use Rattle.std.proofs.Common.{◌≡◌, ◌≤◌}
use Rattle.shim_runs.specs.chan_monitor.Shell.{HasPlaces}
use Rattle.shim_words.proofs.beside.differ_at.Given as goal

abbrev pub invariant-loop-at : goal.invariant-loop-at
invariant-loop-at g l = record {
  urn : l.urn.channels.now ≡ l.channels;
  given : g.G.Draw.has_places l.channels l.given;
  one : (g.S.Stage.map l.one).channels ≡ l.channels;
  other : (g.T.Stage.map l.other).channels ≡ l.channels;
  one_cycles : g.S.Stage.cycles l.one ≤ l.at;
  other_cycles : g.T.Stage.cycles l.other ≤ l.at;
  row : HasPlaces l.channels l.row;
  its : HasPlaces l.channels l.its;
}
