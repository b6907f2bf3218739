use Rattle.std.proofs.Common.{◌≡◌, ◌+◌, ◌++◌, List, drop}
use Rattle.env_script.specs.declared.said.ScriptLine.{ScriptLine}
use Rattle.env_script.specs.Reasons.{form_faults, all_said}
use Rattle.env_script.specs.Reads.{IsGathered}
use Rattle.env_script.proofs.reading.gathered.Given as goal

abbrev pub invariant-loop-line : goal.invariant-loop-line
invariant-loop-line l = record {
  number : l.number ≡ l.first + l.line-index;
  said : List ScriptLine;
  read : IsGathered l.channels said l.gathered;
  faults : form_faults l.channels l.first l.lines ≡ form_faults l.channels l.number (drop l.line-index l.lines);
  all : all_said l.channels l.first l.lines ≡ said ++ all_said l.channels l.number (drop l.line-index l.lines);
}
