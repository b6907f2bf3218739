-- What commands owe that write a trace: what ends one before OUT is written, which trace it gives, and what it says of that trace's packets.
use Rattle.std.specs.Prelude.{◌≡◌, ℕ, ◌⊎◌, Bool, List, Option, length}
use Rattle.vidi_answer.specs.trace_code.trace_model.declared.trace.Trace.{Trace}
use Rattle.vidi_answer.specs.trace_code.Encoding.{encode}
use Rattle.vidi_answer.specs.vidi_io.Shelf.{Files}
use Rattle.vidi_answer.specs.vidi_io.Writing.{IsCutOff, IsKept, IsWritten}
use Rattle.vidi_answer.specs.declared.status.Status.{Status}
use Rattle.vidi_answer.specs.declared.status.Status.TheVariants.{Done}
use Rattle.vidi_answer.specs.Steps.{Ending, IsSaid}
use Rattle.trace_commands.specs.declared.writing.TraceBytes.{TraceBytes}

-- what is left of the files: OUT is not started; or it was started once and holds the encoding of the trace that is given
abbrev pub Writes : Ending → (Trace → Type 0) → (ℕ → List ℕ) → List ℕ → Option Files → (Bool → Type 0) → Status → List ℕ → Option Files
    → Type 0
Writes Refuses Gives line out files Started status text left = (Refuses status text × IsKept files Started left)
    ⊎ ((t : Trace) × Gives t × IsSaid Done (line (length t.packets)) status text × IsWritten files out (encode t) Started left)

-- writing OUT was cut off
abbrev pub StopsWriting : (Trace → Type 0) → List ℕ → Option Files → (Bool → Type 0) → Option Files → Type 0
StopsWriting Gives out files Started left = (t : Trace) × Gives t × IsCutOff files out (encode t) Started left

-- these are the bytes of t, and the number of its packets
abbrev pub IsEncoded : Trace → TraceBytes → Type 0
IsEncoded t e = (e.bytes ≡ encode t) × (e.packets ≡ length t.packets)

-- of a trace that is given
abbrev pub Holds : (Trace → Type 0) → TraceBytes → Type 0
Holds Gives e = (t : Trace) × Gives t × IsEncoded t e
