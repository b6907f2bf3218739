use Rattle.std.proofs.Common.{◌≡◌, ◌+◌, ◌++◌, [], drop}
use Rattle.chan_map.specs.Text.{form_faults, all_said}
use Rattle.chan_map.specs.Follow.{entries}
use Rattle.chan_map.specs.Seen.{IsSeen, AreLawful}
use Rattle.chan_map.proofs.reading.read_map.Given as goal

abbrev pub invariant-loop-line : goal.invariant-loop-line
invariant-loop-line l = record {
  number : l.number ≡ l.line-index + 1;
  faults : form_faults [] 1 l.line-items ≡ form_faults (entries l.said) l.number (drop l.line-index l.line-items);
  all : all_said 1 l.line-items ≡ l.said ++ all_said l.number (drop l.line-index l.line-items);
  seen : IsSeen l.seen (entries l.said);
  lawful : AreLawful (entries l.said);
}
