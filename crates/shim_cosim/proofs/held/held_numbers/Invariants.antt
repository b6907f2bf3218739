use Rattle.std.proofs.Common.{◌≡◌, [], drop, map}
use Rattle.shim_gen.specs.Tables.{with_entries}
use Rattle.shim_cosim.specs.Held.{tie_number, held_numbers}
use Rattle.shim_cosim.proofs.held.held_numbers.Given as goal

abbrev pub invariant-loop-tie : goal.invariant-loop-tie
invariant-loop-tie l = with_entries l.numbers (map tie_number (drop l.tie-index l.map.ties)) ≡ with_entries [] (held_numbers l.map l.resets)
