-- The command `replay`: no failed write among its answers, and the same where no read failed.
use Rattle.std.proofs.Common.{◌≡◌, ℕ, Bool, List, Option, inl, inr}
use Rattle.replay_run.specs.trace_model.declared.trace.Trace.{Trace}
use Rattle.replay_run.specs.trace_model.Recording.{trace_of}
use Rattle.replay_run.specs.chan_map.declared.pins.Map.{Map}
use Rattle.vidi_bench.specs.vidi_io.Shelf.{Files}
use Rattle.replay_run.specs.declared.outcome.ReplayOutcome.{ReplayOutcome}
use Rattle.replay_run.specs.declared.outcome.ReplayOutcome.TheVariants as outcomes
use Rattle.vidi_bench.specs.report_text.declared.reason.Word.TheVariants as words
use Rattle.vidi_bench.specs.report_text.declared.reason.Reason.TheVariants.{OtherChannels}
use Rattle.vidi_bench.specs.vidi_answer.declared.status.Status.{Status}
use Rattle.vidi_bench.specs.vidi_answer.declared.status.Status.TheVariants.{WriteFault, Short, Unstable}
use Rattle.vidi_bench.specs.Design.{text_limit}
use Rattle.vidi_bench.specs.Reading.{Reading}
use Rattle.replay_command.specs.Replays.{RefusedTrace, RefusedReplay, IsUnreplayed, IsReplaySaid, Replays}
use Rattle.replay_command.specs.Said.{replayed_line}
use Rattle.vidi_bench.specs.Traces.{trace_limit, HasOtherChannels}
use Rattle.vidi_bench.proofs.Quiet.{Mute, mute-reading, mute-refusal, quiet-reading}
use Rattle.vidi_bench.proofs.QuietTexts.{mute-wiring}
use Rattle.vidi_bench.proofs.QuietDecoding.{mute-decoding, mute-verdict}

-- ---- no failed write
mute-trace : (trace : List ℕ) (m : Map) → Mute (RefusedTrace trace m)
mute-trace trace m = mute-decoding words.Trace trace (λ t. HasOtherChannels words.Trace m.channels t.channels)
    (λ t x (at, same, other, s). mute-refusal words.Trace (OtherChannels at) x s)

pub mute-refused_replay : (design map trace : List ℕ) → Mute (RefusedReplay design map trace)
mute-refused_replay design map trace = mute-wiring design map (RefusedTrace trace) (mute-trace trace)

mute-unreplayed : (design map trace : List ℕ) (files : Option Files) (F : List ℕ → Type 0) → Mute (IsUnreplayed design map trace files F)
mute-unreplayed design map trace files F = mute-reading text_limit words.Design design files F
    (λ d. Reading text_limit words.Map map files F (λ n. Reading trace_limit words.Trace trace files F (RefusedReplay d n)))
    (λ d. mute-reading text_limit words.Map map files F (λ n. Reading trace_limit words.Trace trace files F (RefusedReplay d n))
    (λ n. mute-reading trace_limit words.Trace trace files F (RefusedReplay d n)
    (mute-refused_replay d n)))

pub mute-replay_said : (t u : Trace) (n : ℕ) (o : ReplayOutcome) → Mute (IsReplaySaid t u n o)
mute-replay_said t u n (outcomes.Ended cycles) x v = mute-verdict (replayed_line cycles) t u x v
mute-replay_said t u n (outcomes.Short helds events) x s = let e : WriteFault ≡ Short helds events = s.0 in cc
mute-replay_said t u n (outcomes.Unstable channel cycle) x s = let e : WriteFault ≡ Unstable channel cycle = s.0 in cc

pub mute-replays : (design map trace : List ℕ) (n : ℕ) (out : List ℕ) (files : Option Files) (F : List ℕ → Type 0) (P : Bool → Type 0)
    (x : List ℕ) (left : Option Files) → Replays design map trace n out files F P WriteFault x left → ⊥
mute-replays design map trace n out files F P x left (inl (unreplayed, same)) = mute-unreplayed design map trace files F x unreplayed
mute-replays design map trace n out files F P x left (inr (v, t, replayable, (rows, outcome, is, s, held))) =
    mute-replay_said t (trace_of v.map.channels rows) n outcome x s

-- ---- where no read failed
pub quiet-replays : (design map trace : List ℕ) (n : ℕ) (out : List ℕ) (files : Option Files) (F : List ℕ → Type 0) (P : Bool → Type 0)
    (a : Status) (x : List ℕ) (left : Option Files) → ((name : List ℕ) → ¬ F name) → Replays design map trace n out files F P a x left
    → Replays design map trace n out files (λ _. ⊥) P a x left
quiet-replays design map trace n out files F P a x left quiet (inl (unreplayed, same)) =
    inl (
      quiet-reading text_limit words.Design design files F _ _ (quiet design)
          (λ d. quiet-reading text_limit words.Map map files F _ _ (quiet map)
          (λ m. quiet-reading trace_limit words.Trace trace files F (RefusedReplay d m) (RefusedReplay d m) (quiet trace)
          (λ text b y rest. rest))) a x unreplayed,
      same,
    )
quiet-replays design map trace n out files F P a x left quiet (inr replayed) = inr replayed
