use Rattle.std.proofs.Common.{◌≡◌, ◌+◌, ◌*◌, ◌≤◌, ◌++◌, take}
use Rattle.text_page.specs.Pad.{shown, room, left}
use Rattle.report_text.specs.Text.{spaced}
use Rattle.report_text.proofs.trace_text.put_counts.Given as goal

abbrev pub invariant-loop-count : goal.invariant-loop-count
invariant-loop-count l = record {
  text : shown l.clock ≡ shown l.initial.clock ++ spaced (take l.count-index l.completed);
  left : left l.initial.clock ≤ left l.clock + 21 * l.count-index;
  room : room l.clock ≡ room l.initial.clock;
}
