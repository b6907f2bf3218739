-- *Migration*: an old trace in today's bytes.
use Rattle.std.specs.Prelude.{◌≡◌, ℕ, true, false, List, ◌++◌, Result, Ok, Err}
use Rattle.trace_code.specs.declared.error.CodeError.{CodeError}
use Rattle.trace_code.specs.declared.error.CodeError.TheVariants.{BadTrace, Memory}
use Rattle.trace_code.specs.trace_model.declared.channel.Channel.{Channel}
use Rattle.trace_code.specs.trace_model.declared.trace.Trace.{Trace}
use Rattle.trace_code.specs.Encoding.{header_bytes, Encodes}
use Rattle.trace_v2.specs.Old.{begins_old, old_header_bytes, EncodesOld}
use Rattle.trace_v2.specs.OldDecoding.{IsOldFaultAt}

-- the new bytes are the encoding of the trace that the old ones encode, which is refused as `decode_v1` refuses it
abbrev pub Migrates : List ℕ → Result (List ℕ) CodeError → Type 0
Migrates old (Ok new) = (t : Trace) × EncodesOld t old × Encodes t new
Migrates old (Err (BadTrace at)) = IsOldFaultAt old at × ((t : Trace) → ¬ EncodesOld t old)
Migrates old (Err Memory) = Unit {0}

-- what is read of the new bytes is what the old ones encode: the same channels, starts, ends and contents, without gaps and resets
abbrev pub MigrationKeeps : Type 0
MigrationKeeps = (old new : List ℕ) → Migrates old (Ok new) → (t u : Trace) → EncodesOld t old → Encodes u new → u ≡ t

-- what begins with an old header begins as an old trace does, and what begins with one of today doesn't: so no bytes are of both versions
abbrev pub VersionsDiffer : Type 0
VersionsDiffer = (channels : List Channel) (rest : List ℕ) → (begins_old (old_header_bytes channels ++ rest) ≡ true)
    × (begins_old (header_bytes channels ++ rest) ≡ false)
