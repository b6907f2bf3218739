use Rattle.std.proofs.Common.{◌≡◌, ◌≤◌, ◌-◌, length, drop}
use Rattle.wave_text.specs.Reading.{place_of}
use Rattle.wave_text.specs.Wave.{most_numbers}
use Rattle.wave_text.proofs.words.place_of.Given as goal

abbrev pub invariant-loop-i : goal.invariant-loop-i
invariant-loop-i l = record {
  within : l.place ≤ most_numbers;
  so_far : l.place ≡ place_of (drop (length l.id - l.i) l.id);
}
