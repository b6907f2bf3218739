-- Traces that are read: no failed write among the answers.
use Rattle.std.proofs.Common.{◌≡◌, ℕ, List, inl, inr}
use Rattle.trace_v2.specs.trace_code.trace_model.declared.packet.Packet.{Packet}
use Rattle.trace_v2.specs.trace_code.trace_model.declared.trace.Trace.{Trace}
use Rattle.trace_v2.specs.trace_code.Encoding.{Encodes}
use Rattle.report_text.specs.declared.reason.Word.{Word}
use Rattle.report_text.specs.declared.reason.Reason.TheVariants.{BadTrace, OldTrace}
use Rattle.report_text.specs.declared.reason.Reason.TheVariants as reasons
use Rattle.vidi_answer.specs.declared.status.Status.TheVariants.{Done, WriteFault, Diverged}
use Rattle.vidi_answer.specs.Steps.{Ending}
use Rattle.vidi_answer.specs.Traces.{IsNoTrace, Decoding, HasReset, IsVerdict}
use Rattle.vidi_answer.proofs.Quiet.{Mute, mute-step, mute-refusal}

mute-no_trace : (word : Word) (file : List ℕ) → Mute (IsNoTrace word file)
mute-no_trace word file x (inl (old, s)) = mute-refusal word OldTrace x s
mute-no_trace word file x (inr (new, at, fault, none, s)) = mute-refusal word (BadTrace at) x s

pub mute-decoding : (word : Word) (file : List ℕ) (Next : Trace → Ending) → ((t : Trace) → Mute (Next t)) → Mute (Decoding word file Next)
mute-decoding word file Next mute = mute-step (IsNoTrace word file) (λ (t : Trace). Encodes t file) Next (mute-no_trace word file) mute

pub mute-reset : (word : Word) (packets : List Packet) → Mute (HasReset word packets)
mute-reset word packets x (n, first, s) = mute-refusal word (reasons.HasReset n) x s

pub mute-verdict : (line : List ℕ) (t u : Trace) → Mute (IsVerdict line t u)
mute-verdict line t u x (inl (none, s)) = let e : WriteFault ≡ Done = s.0 in cc
mute-verdict line t u x (inr (some, s)) = let e : WriteFault ≡ Diverged = s.0 in cc
