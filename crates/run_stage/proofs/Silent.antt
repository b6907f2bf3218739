-- A row in which nothing is up is one over its channels.
use Rattle.std.proofs.Common.{◌≡◌, false, List, length, replicate, refl, subst, sym}
use Rattle.std.proofs.lemmas.Nat.{pow_pos}
use Rattle.chan_replayer.specs.trace_model.declared.channel.Channel.{Channel}
use Rattle.chan_replayer.specs.trace_model.declared.row.Row.{Row}
use Rattle.chan_replayer.specs.trace_model.Row.{all_widths, IsOver}
use Rattle.chan_replayer.proofs.run_model_lemmas.Contents.{fit-zeros}

abbrev pub silent : List Channel → Row
silent channels = record {
  fresh = false;
  gates = 0;
  valids = 0;
  readies = 0;
  contents = replicate (length (all_widths channels)) 0;
  starts = 0;
  ends = 0;
}

over-silent : (channels : List Channel) → IsOver channels (silent channels)
over-silent channels = record {
  gates = pow_pos (length channels);
  valids = pow_pos (length channels);
  readies = pow_pos (length channels);
  starts = pow_pos (length channels);
  ends = pow_pos (length channels);
  contents = fit-zeros (all_widths channels);
}

pub silent_over : (channels : List Channel) (row : Row) → row ≡ record {
  fresh = false;
  gates = 0;
  valids = 0;
  readies = 0;
  contents = replicate (length (all_widths channels)) 0;
  starts = 0;
  ends = 0;
} → (row.valids ≡ 0) × IsOver channels row
silent_over channels row e = subst (λ (r : Row). (r.valids ≡ 0) × IsOver channels r) (sym e) (refl, over-silent channels)
