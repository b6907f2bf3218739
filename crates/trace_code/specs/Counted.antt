-- What is counted before a packet of a trace.
use Rattle.std.specs.Prelude.{ℕ, List, map}
use Rattle.std.specs.List.{range_with_len}
use Rattle.vec_clock.specs.trace_model.declared.event.Kind.TheVariants.{End}
use Rattle.vec_clock.specs.trace_model.declared.packet.Packet.{Packet}
use Rattle.vec_clock.specs.trace_model.Epoch.{resets, since_reset}
use Rattle.vec_clock.specs.trace_model.Packet.{count}
use Rattle.trace_code.specs.declared.tally.Tally.{Tally}
use Rattle.trace_code.specs.Tallied.{tallied}

-- the completions of each channel since the last reset, and the resets
pub record Counted : Type 0 where
  pub clock : List ℕ
  pub epoch : ℕ

-- those of n channels in these packets
abbrev pub counts_of : ℕ → List Packet → Counted
counts_of n packets = record { clock = map (λ c. count End c (since_reset packets)) (range_with_len 0 n); epoch = resets packets }

-- those that a tally has
abbrev pub counted : Tally → Counted
counted k = record { clock = tallied k.clock k.ends k.times; epoch = k.epoch }
