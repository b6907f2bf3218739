use Rattle.std.proofs.Common.{◌≡◌, ◌<◌, ◌^◌, ◌++◌, string_bytes}
use Rattle.std.specs.List.{flat_map, range_with_len}
use Rattle.sample_gen.specs.Sample.{send_line}
use Rattle.sample_gen.specs.Sequence.{state, drawn}
use Rattle.sample_gen.proofs.script.put_sends.Given as goal

abbrev pub invariant-loop-i : goal.invariant-loop-i
invariant-loop-i l = record {
  stands : l.sequence.state ≡ state l.initial.sequence.state l._i;
  small : l.sequence.state < 2 ^ 32;
  added : string_bytes l.text
      ≡ string_bytes l.initial.text ++ flat_map (λ i. send_line (drawn l.initial.sequence.state i)) (range_with_len 1 l._i);
}
