-- What is known of `replay`.
use Rattle.std.proofs.Common.{◌≡◌, ℕ, Bool, true, false, List, Option, inl, inr, subst}
use Rattle.wrap_command.specs.trace_model.declared.trace.Trace.{Trace}
use Rattle.wrap_command.specs.trace_model.Recording.{trace_of}
use Rattle.wrap_command.specs.vidi_io.Shelf.{Files}
use Rattle.wrap_command.specs.vidi_bench.vidi_answer.declared.status.Status.{Status}
use Rattle.trace_commands.specs.Traces.{IsVerdict}
use Rattle.sample_command.specs.replay_command.Replays.{IsReplaySaid, Replays, StopsReplaying}
use Rattle.sample_command.specs.replay_command.Said.{replayed_line}
use Rattle.sample_command.specs.replay_run.declared.outcome.ReplayOutcome.{ReplayOutcome}
use Rattle.sample_command.specs.replay_run.declared.outcome.ReplayOutcome.TheVariants as outcomes
use Rattle.vidi_commands.specs.Answer.{StartsNone}
use Rattle.sample_command.proofs.replay_command_lemmas.QuietReplays.{mute-replays, quiet-replays}
use Rattle.vidi_commands.proofs.Facts.{Facts, Once, cut-once}

verdict-starts : (line : List ℕ) (t u : Trace) (status : Status) (text : List ℕ) → IsVerdict line t u status text → StartsNone status → ⊥
verdict-starts line t u status text (inl (none, said)) is = subst StartsNone said.0 is
verdict-starts line t u status text (inr (some, said)) is = subst StartsNone said.0 is

replayed-starts : (t u : Trace) (n : ℕ) (outcome : ReplayOutcome) (status : Status) (text : List ℕ)
    → IsReplaySaid t u n outcome status text → StartsNone status → ⊥
replayed-starts t u n (outcomes.Ended cycles) status text said is = verdict-starts (replayed_line cycles) t u status text said is
replayed-starts t u n (outcomes.Short helds events) status text said is = subst StartsNone said.0 is
replayed-starts t u n (outcomes.Unstable channel cycle) status text said is = subst StartsNone said.0 is

replays-once : (design map trace : List ℕ) (n : ℕ) (out : List ℕ) (files : Option Files) (F : List ℕ → Type 0)
    (P : Bool → Type 0) (status : Status) (text : List ℕ) (left : Option Files)
    → Replays design map trace n out files F P status text left → Once P
replays-once design map trace n out files F P status text left (inl (u, (same, none))) = (false, none)
replays-once design map trace n out files F P status text left (inr (v, t, is, (rows, outcome, run, said, (held, once)))) = (true, once)

replays-none : (design map trace : List ℕ) (n : ℕ) (out : List ℕ) (files : Option Files) (F : List ℕ → Type 0)
    (P : Bool → Type 0) (status : Status) (text : List ℕ) (left : Option Files)
    → Replays design map trace n out files F P status text left → StartsNone status → P false
replays-none design map trace n out files F P status text left (inl (u, (same, none))) is = none
replays-none design map trace n out files F P status text left (inr (v, t, able, (rows, outcome, run, said, held))) is =
    absurd (replayed-starts t (trace_of v.map.channels rows) n outcome status text said is)

stopped-once : (design map trace : List ℕ) (n : ℕ) (out : List ℕ) (files : Option Files) (P : Bool → Type 0) (left : Option Files)
    → StopsReplaying design map trace n out files P left → Once P
stopped-once design map trace n out files P left (v, t, is, (rows, outcome, run, cut)) = cut-once files out _ P left cut

pub replay-facts : (design map trace : List ℕ) (n : ℕ) (out : List ℕ)
    → Facts (Replays design map trace n out) (StopsReplaying design map trace n out)
replay-facts design map trace n out = record {
  mute = mute-replays design map trace n out;
  quiet = quiet-replays design map trace n out;
  once = replays-once design map trace n out;
  none = replays-none design map trace n out;
  stopped = stopped-once design map trace n out;
}
