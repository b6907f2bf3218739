use Rattle.std.proofs.Common.{◌≡◌, ◌<◌, ◌^◌, ℕ, true, Some}
use Rattle.std.specs.Prelude.{◌↔◌, slice_get}
use Rattle.trace_code.specs.vidi_bits.Number.{has}
use Rattle.trace_code.specs.trace_model.declared.channel.Channel.{Channel}
use Rattle.trace_code.specs.trace_model.declared.channel.Dir.TheVariants.{Inward}
use Rattle.replay_run.proofs.feeder.inward_of.Given as goal

abbrev pub invariant-loop-c : goal.invariant-loop-c
invariant-loop-c l = record {
  below : l.inward < 2 ^ l.c;
  named : (d : ℕ) (x : Channel) → d < l.c → slice_get l.channels d ≡ Some x → (has l.inward d ≡ true) ↔ (x.dir ≡ Inward);
}
