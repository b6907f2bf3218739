-- Traces that are read, and compared: one answer.
use Rattle.std.proofs.Common.{◌≡◌, ◌≢◌, ◌⊎◌, ℕ, ◌<◌, true, false, List, take, slice_get, inl, inr, ⊎_elim, refl, sym, ap, subst, ◌∙◌, arith}
use Rattle.std.proofs.lemmas.Bool.{cases_order}
use Rattle.vidi_commands.specs.trace_model.declared.channel.Channel.{Channel}
use Rattle.vidi_commands.specs.trace_model.declared.event.Kind.TheVariants.{Reset}
use Rattle.vidi_commands.specs.trace_model.declared.packet.Packet.{Packet}
use Rattle.vidi_commands.specs.trace_model.declared.trace.Trace.{Trace}
use Rattle.vidi_commands.specs.trace_model.Epoch.{resets}
use Rattle.vidi_commands.specs.trace_model.Packet.{does}
use Rattle.vidi_commands.proofs.trace_model_lemmas.CountingLemmas.{nth-below, nth-unique, slice_get-take}
use Rattle.vidi_commands.specs.trace_code.Encoding.{Encodes}
use Rattle.vidi_commands.specs.trace_code.Decoding.{OnePlace, OneReading}
use Rattle.vidi_commands.specs.trace_code.NoReset.{HasNoReset}
use Rattle.vidi_commands.specs.trace_v2.Old.{begins_old}
use Rattle.vidi_commands.specs.trace_compare.Findings.{findings}
use Rattle.vidi_commands.specs.report_text.declared.reason.Word.{Word}
use Rattle.vidi_commands.specs.report_text.declared.reason.Reason.TheVariants.{BadTrace, OldTrace, OtherChannels}
use Rattle.vidi_commands.specs.report_text.declared.reason.Reason.TheVariants as reasons
use Rattle.vidi_commands.specs.vidi_bench.vidi_answer.declared.status.Status.TheVariants.{Done, Refused, Diverged}
use Rattle.vidi_commands.specs.report_text.Reason.{reason_line}
use Rattle.vidi_commands.specs.Said.{diverged_text}
use Rattle.vidi_commands.specs.vidi_bench.Steps.{Ending, IsRefusal}
use Rattle.vidi_commands.specs.vidi_bench.Traces.{IsNoTrace, Decoding, HasOtherChannels, HasReset, IsFirstReset, IsVerdict}
use Rattle.vidi_laws.proofs.OneEnding.{Same, One, Apart, one-said, one-step-by}

-- two tables have one first difference
no-lower : (t u : List Channel) (m n : ℕ) → m < n → slice_get t m ≢ slice_get u m → take n t ≡ take n u → ⊥
no-lower t u m n l other same =
    other (sym (slice_get-take n t m l) ∙ ap (λ (cs : List Channel). slice_get cs m) same ∙ slice_get-take n u m l)

one-difference : (t u : List Channel) (m n : ℕ) → take m t ≡ take m u → slice_get t m ≢ slice_get u m → take n t ≡ take n u
    → slice_get t n ≢ slice_get u n → m ≡ n
one-difference t u m n same other same' other' = ⊎_elim
    (λ (e : m ≡ n). e)
    (λ (ne : (m < n) ⊎ (n < m)). ⊎_elim
    (λ (l : m < n). absurd (no-lower t u m n l other same'))
    (λ (l : n < m). absurd (no-lower t u n m l other' same))
    ne)
    (cases_order m n)

pub one-other : (word : Word) (channels others : List Channel) → One (HasOtherChannels word channels others)
one-other word channels others a b x y (m, same, other, s) (n, same', other', s') =
    one-said (Refused word (OtherChannels m)) (reason_line word (OtherChannels m)) a b x y s
    (subst (λ (k : ℕ). IsRefusal word (OtherChannels k) b y) (one-difference channels others n m same' other' same other) s')

-- a trace has one first reset
pub one-reset : (word : Word) (packets : List Packet) → One (HasReset word packets)
one-reset word packets a b x y (m, (p, is), s) (n, (q, is'), s') =
    one-said (Refused word (reasons.HasReset m)) (reason_line word (reasons.HasReset m)) a b x y s
    (subst (λ (k : ℕ). IsRefusal word (reasons.HasReset k) b y) (nth-unique (does Reset 0) packets 0 n m q p is' is).0 s')

pub reset-apart : (packets : List Packet) (n : ℕ) → HasNoReset packets → IsFirstReset packets n → ⊥
reset-apart packets n none (p, is) = let l : 0 < resets packets = nth-below (does Reset 0) packets 0 n p is in omega (arith, l, none)

pub one-verdict : (line : List ℕ) (t u : Trace) → One (IsVerdict line t u)
one-verdict line t u a b x y (inl (none, s)) (inl (none', s')) = one-said Done line a b x y s s'
one-verdict line t u a b x y (inl (none, s)) (inr (some, s')) = absurd (some none)
one-verdict line t u a b x y (inr (some, s)) (inl (none, s')) = absurd (some none)
one-verdict line t u a b x y (inr (some, s)) (inr (some', s')) =
    one-said Diverged (diverged_text (findings t u) t.channels) a b x y s s'

-- no bytes begin as both versions do
pub old-or-new : (file : List ℕ) → begins_old file ≡ true → begins_old file ≡ false → ⊥
old-or-new file old new = let e : true ≡ false = sym old ∙ new in cc

-- those of a trace of today don't begin as an old one's
trace-new : (t : Trace) (file : List ℕ) → Encodes t file → begins_old file ≡ false
trace-new t file code = subst (λ (b : List ℕ). begins_old b ≡ false) code.1 refl

pub no_trace-apart : (word : Word) (file : List ℕ) → Apart (IsNoTrace word file) (λ (t : Trace). Encodes t file)
no_trace-apart word file a x t (inl (old, s)) code = old-or-new file old (trace-new t file code)
no_trace-apart word file a x t (inr (new, at, fault, none, s)) code = none t code

one-no_trace : OnePlace → (word : Word) (file : List ℕ) → One (IsNoTrace word file)
one-no_trace place word file a b x y (inl (old, s)) (inl (old', t)) =
    one-said (Refused word OldTrace) (reason_line word OldTrace) a b x y s t
one-no_trace place word file a b x y (inl (old, s)) (inr (new, n, fault, none, t)) = absurd (old-or-new file old new)
one-no_trace place word file a b x y (inr (new, n, fault, none, t)) (inl (old, s)) = absurd (old-or-new file old new)
one-no_trace place word file a b x y (inr (new, m, fault, none, s)) (inr (new', n, fault', none', t)) =
    one-said (Refused word (BadTrace m)) (reason_line word (BadTrace m)) a b x y s
    (subst (λ (k : ℕ). IsRefusal word (BadTrace k) b y) (place file n m fault' fault) t)

pub one-decoding : OneReading → OnePlace → (word : Word) (file : List ℕ) (Next : Trace → Ending) → ((t : Trace) → One (Next t))
    → One (Decoding word file Next)
one-decoding reading place word file Next one = one-step-by Same (IsNoTrace word file) (λ (t : Trace). Encodes t file) Next
    (one-no_trace place word file) (reading file) (no_trace-apart word file) (λ t _. one t)
