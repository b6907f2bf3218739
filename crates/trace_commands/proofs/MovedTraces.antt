-- The command `move`: its moved trace has an encoding; no failed write among its refusals, and the same where no read failed.
use Rattle.std.proofs.Common.{ℕ, ◌≤◌, Bool, List, Option, length, sym, subst, arith}
use Rattle.vidi_answer.specs.trace_code.trace_model.declared.event.Event.{Event}
use Rattle.vidi_answer.specs.trace_code.trace_model.declared.trace.Trace.{Trace}
use Rattle.vidi_answer.specs.trace_code.trace_model.Channel.{IsTable}
use Rattle.vidi_answer.specs.trace_code.Encoding.{end_mark, Encodes, HasEncoding}
use Rattle.vidi_answer.specs.vidi_io.Shelf.{Files}
use Rattle.vidi_answer.specs.report_text.declared.reason.Word.TheVariants as words
use Rattle.vidi_answer.proofs.Chain.{Implies}
use Rattle.vidi_answer.proofs.Quiet.{Mute, mute-reading, mute-refusal, quiet-reading}
use Rattle.vidi_answer.proofs.QuietDecoding.{mute-decoding}
use Rattle.trace_edit.specs.Laws.{MovedCompletion}
use Rattle.vidi_answer.proofs.trace_code_lemmas.trace_model_lemmas.EpochLemmas.{throughout_from}
use Rattle.vidi_answer.proofs.trace_code_lemmas.Fronts.{split-few}
use Rattle.trace_commands.specs.Moves.{IsUnmoved, IsUnmovedIn, Refuses, Wanted}
use Rattle.vidi_answer.specs.Traces.{trace_limit}

-- no more packets than bytes
pub encoded-few : (t : Trace) (file : List ℕ) → Encodes t file → length t.packets ≤ length file
encoded-few t file (has, is) = split-few file t.channels t.packets (end_mark (length t.packets)) (record {
  table = has.table;
  each = has.well_formed.packets;
  alternate = throughout_from t.packets has.well_formed.alternate;
  parts = sym is;
})

-- so the moved trace has an encoding
pub moved-encodes : (end other : Event) (after : Bool) (t u : Trace) (file : List ℕ) → Encodes t file → length file ≤ trace_limit
    → MovedCompletion end other after t u → HasEncoding u
moved-encodes end other after t u file is short moved =
    let few = encoded-few t file is in
    let grows = moved.grows in
    record {
      table = subst IsTable (sym moved.keeps.channels) is.0.table;
      well_formed = moved.well_formed;
      few = omega (arith, few, grows, short);
    }

-- ---- its refusals
mute-refuses : (w : Wanted) (t : Trace) → Mute (Refuses w t)
mute-refuses w t x (error, moves, (reason, found, s)) = mute-refusal words.Trace reason x s

pub mute-unmoved : (trace : List ℕ) (w : Wanted) (files : Option Files) (F : List ℕ → Type 0) → Mute (IsUnmoved trace w files F)
mute-unmoved trace w files F = mute-reading trace_limit words.Trace trace files F (IsUnmovedIn w)
    (λ file. mute-decoding words.Trace file (Refuses w) (mute-refuses w))

pub quiet-unmoved : (trace : List ℕ) (w : Wanted) (files : Option Files) (F : List ℕ → Type 0) → ((name : List ℕ) → ¬ F name)
    → Implies (IsUnmoved trace w files F) (IsUnmoved trace w files (λ _. ⊥))
quiet-unmoved trace w files F quiet = quiet-reading trace_limit words.Trace trace files F (IsUnmovedIn w) (IsUnmovedIn w) (quiet trace)
    (λ file a x rest. rest)
