-- From the texts of a replay, and from the replay, to the answer of `replay`.
use Rattle.std.proofs.Common.{◌≡◌, ℕ, Bool, true, false, List, Option, Result, Ok, Err, inr, sym, subst, ◌∙◌}
use Rattle.std.specs.Prelude.{IfOk, IfErr}
use Rattle.replay_run.specs.trace_model.declared.trace.Trace.{Trace}
use Rattle.replay_run.specs.trace_model.Recording.{trace_of}
use Rattle.replay_run.specs.trace_code.Encoding.{Encodes, encode}
use Rattle.vidi_bench.specs.vidi_io.Shelf.{Files}
use Rattle.vidi_bench.specs.vidi_io.Writing.{IsKept}
use Rattle.vidi_bench.proofs.vidi_io_lemmas.Cut.{cut-knowing}
use Rattle.vidi_bench.specs.vidi_answer.declared.answer.Answer.{Answer}
use Rattle.vidi_bench.specs.vidi_answer.declared.answer.Ended.{Ended}
use Rattle.vidi_bench.specs.vidi_answer.declared.answer.Ended.TheVariants as ends
use Rattle.vidi_bench.specs.declared.device.Device.{Device}
use Rattle.vidi_bench.specs.vidi_answer.declared.status.Status.{Status}
use Rattle.replay_command.specs.declared.replaying.Replayable.{Replayable}
use Rattle.vidi_bench.specs.AnswerText.{text_of}
use Rattle.vidi_bench.specs.Design.{text_limit}
use Rattle.vidi_bench.specs.Devices.{IsDevice}
use Rattle.vidi_bench.specs.Ended.{IsStopped, Owes}
use Rattle.vidi_bench.specs.Reading.{IsRead}
use Rattle.replay_command.specs.Replays.{CutsReplay, IsReplayable, Replays, ReplaysTrace, StopsReplaying}
use Rattle.vidi_bench.specs.Traces.{trace_limit}

-- what the texts of three files say
pub replayable-said : (design map trace : List ℕ) (files : Option Files) (d m b : List ℕ) (r : Result Replayable Ended)
    → IsRead text_limit design files d → IsRead text_limit map files m → IsRead trace_limit trace files b
    → IfOk r (λ p. IsDevice d m p.device) → IfOk r (λ p. Encodes p.trace b) → IfOk r (λ p. p.trace.channels ≡ p.device.map.channels)
    → IfOk r (λ p. IsReplayable design map trace files p.device p.trace)
replayable-said design map trace files d m b (Ok p) first second third device encodes same = record {
  design_text = d;
  map_text = m;
  trace_bytes = b;
  design_read = first;
  map_read = second;
  trace_read = third;
  device = device;
  encodes = encodes;
  same = same;
}
replayable-said design map trace files d m b (Err e) first second third device encodes same = tt

-- the bytes of the trace are those that were read
pub bytes-encode : (b : List ℕ) (r : Result Replayable Ended) → IfOk r (λ p. p.bytes ≡ b) → IfOk r (λ p. Encodes p.trace b)
    → IfOk r (λ p. Encodes p.trace p.bytes)
bytes-encode b (Ok p) same encodes = subst (λ (x : List ℕ). Encodes p.trace x) (sym same) encodes
bytes-encode b (Err e) same encodes = tt

-- the same of what else is known of the starts
replayed-knowing : (v : Device) (t : Trace) (n : ℕ) (out : List ℕ) (files left : Option Files) (P Q : Bool → Type 0)
    (status : Status) (text : List ℕ) → ((once : Bool) → P once → Q once) → ReplaysTrace v t n out files P status text left
    → ReplaysTrace v t n out files Q status text left
replayed-knowing v t n out files left P Q status text known (rows, outcome, run, said, (held, once)) =
    (rows, outcome, run, said, (held, known true once))

-- what is owed for what can be replayed
pub replayed-owed : (design map trace : List ℕ) (n : ℕ) (out : List ℕ) (files now left : Option Files) (F : List ℕ → Type 0) (v : Device)
    (t : Trace) (V W : Type 0) (P Q : Bool → Type 0) (r : Result Answer Ended) → now ≡ files → IsReplayable design map trace files v t
    → (V → W) → ((once : Bool) → P once → Q once)
    → IfOk r (λ a. ReplaysTrace v t n out now P a.status (text_of a.text) left)
    → IfErr r (IsStopped (CutsReplay v t n out now P) V (IsKept now P) left)
    → Owes (Replays design map trace n out files F Q) (StopsReplaying design map trace n out files Q) W (IsKept files Q) left r
replayed-owed design map trace n out files now left F v t V W P Q (Ok a) same is why kept replayed stopped =
    let known = replayed-knowing v t n out now left P Q a.status (text_of a.text) kept replayed in
    inr (v, t, is, subst (λ (fs : Option Files). ReplaysTrace v t n out fs Q a.status (text_of a.text) left) same known)
replayed-owed design map trace n out files now left F v t V W P Q (Err (ends.Refused a)) same is why kept replayed stopped = absurd stopped
replayed-owed design map trace n out files now left F v t V W P Q (Err ends.WriteFault) same is why kept replayed
    (failed, (rows, outcome, run, cut)) =
    let known = cut-knowing now left out (encode (trace_of v.map.channels rows)) P Q kept cut in
    (why failed, (v, t, is, subst (λ (fs : Option Files). CutsReplay v t n out fs Q left) same (rows, outcome, run, known)))
replayed-owed design map trace n out files now left F v t V W P Q (Err ends.Memory) same is why kept replayed (stays, none) =
    (stays ∙ same, kept false none)
