-- The traces that commands read, and what is said of two.
use Rattle.std.specs.Prelude.{◌≡◌, ◌≢◌, ℕ, ◌⊎◌, true, false, List, [], take, slice_get}
use Rattle.trace_v2.specs.trace_code.trace_model.declared.channel.Channel.{Channel}
use Rattle.trace_v2.specs.trace_code.trace_model.declared.event.Kind.TheVariants.{Reset}
use Rattle.trace_v2.specs.trace_code.trace_model.declared.packet.Packet.{Packet}
use Rattle.trace_v2.specs.trace_code.trace_model.declared.trace.Trace.{Trace}
use Rattle.trace_v2.specs.trace_code.trace_model.Counting.{IsNth}
use Rattle.trace_v2.specs.trace_code.trace_model.Packet.{does}
use Rattle.trace_v2.specs.trace_code.Decoding.{IsFaultAt}
use Rattle.trace_v2.specs.trace_code.Encoding.{Encodes}
use Rattle.report_text.specs.trace_compare.Findings.{findings}
use Rattle.report_text.specs.declared.reason.Word.{Word}
use Rattle.report_text.specs.declared.reason.Reason.TheVariants.{BadTrace, OldTrace, OtherChannels}
use Rattle.report_text.specs.declared.reason.Reason.TheVariants as reasons
use Rattle.trace_v2.specs.trace_code.declared.decoding.TheConstants.{TRACE_LIMIT}
use Rattle.trace_v2.specs.Old.{begins_old}
use Rattle.vidi_answer.specs.declared.status.Status.TheVariants.{Done, Diverged}
use Rattle.vidi_answer.specs.Said.{diverged_text}
use Rattle.vidi_answer.specs.Steps.{Ending, IsSaid, IsRefusal, Step}

-- the longest trace file, in bytes
abbrev pub trace_limit : ℕ
trace_limit = TRACE_LIMIT

-- the bytes begin as those of an old trace do
abbrev pub IsOldTrace : Word → List ℕ → Ending
IsOldTrace word file status text = (begins_old file ≡ true) × IsRefusal word OldTrace status text

-- they don't, and encode no trace
abbrev pub IsBadTrace : Word → List ℕ → Ending
IsBadTrace word file status text = (begins_old file ≡ false)
    × (at : ℕ) × IsFaultAt file at × ((t : Trace) → ¬ Encodes t file) × IsRefusal word (BadTrace at) status text

abbrev pub IsNoTrace : Word → List ℕ → Ending
IsNoTrace word file status text = IsOldTrace word file status text ⊎ IsBadTrace word file status text

-- the bytes of this word's file encode a trace, and this comes of it
abbrev pub Decoding : Word → List ℕ → (Trace → Ending) → Ending
Decoding word file Next = Step (IsNoTrace word file) (λ t. Encodes t file) Next

-- ---- where the traces of a command may have no reset
-- packet n is the first that is a reset
abbrev pub IsFirstReset : List Packet → ℕ → Type 0
IsFirstReset packets n = (p : Packet) × IsNth (does Reset 0) packets 0 n p

-- the trace of this word's file has a reset, first in this packet
abbrev pub HasReset : Word → List Packet → Ending
HasReset word packets status text = (n : ℕ) × IsFirstReset packets n × IsRefusal word (reasons.HasReset n) status text

-- ---- `compare TRACE OTHER`
-- there are other channels in the file of this word, first at this place
abbrev pub HasOtherChannels : Word → List Channel → List Channel → Ending
HasOtherChannels word channels others status text = (at : ℕ) × (take at channels ≡ take at others)
    × (slice_get channels at ≢ slice_get others at) × IsRefusal word (OtherChannels at) status text

-- the second trace has no findings against the first, and this line is said; or it has some, and they are said
abbrev pub IsVerdict : List ℕ → Trace → Trace → Ending
IsVerdict line t u status text = ((findings t u ≡ []) × IsSaid Done line status text)
    ⊎ ((findings t u ≢ []) × IsSaid Diverged (diverged_text (findings t u) t.channels) status text)
