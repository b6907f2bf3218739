-- What a recording leaves, by its answer (this project's profile).
use Rattle.std.specs.Prelude.{◌≡◌, ℕ, ◌+◌, ◌<◌, ◌≤◌, ◌⊎◌, List, ◌++◌, Option, None, Some, length, take}
use Rattle.std.specs.Io.KnownBytes.{append_known}
use Rattle.trace_code.specs.trace_model.declared.row.Row.{Row}
use Rattle.trace_code.specs.trace_model.Recording.{trace_of}
use Rattle.trace_code.specs.declared.decoding.TheConstants.{TRACE_LIMIT}
use Rattle.trace_code.specs.Encoding.{encode, header_bytes}
use Rattle.net_design.specs.declared.design.Design.{Design}
use Rattle.net_design.specs.declared.values.Values.{Values}
use Rattle.net_design.specs.Lawful.{IsLawful}
use Rattle.vidi_io.specs.Cause.{Rose}
use Rattle.vidi_recorder.specs.declared.error.Outcome.{Outcome}
use Rattle.vidi_recorder.specs.declared.error.Outcome.TheVariants.{Whole, Unstable}
use Rattle.vidi_recorder.specs.declared.error.RecordError.{RecordError}
use Rattle.vidi_recorder.specs.declared.error.RecordError.TheVariants.{WriteFault, Memory}
use Rattle.vidi_recorder.specs.Course.{Course, IsTheRunOf, sizes_of, turns_within}
use Rattle.vidi_recorder.specs.Standing.{Reached, bytes_so_far, drained_but_last}

-- The environment stands for these rows, the shell goes on behind them, and the sink has grown by the encoding of their trace, which isn't
-- too long to be read again.
pub record IsRecorded (w : Course) (runs : Design → Values → Option Row → Type 0) (stands_for : List Row → Type 0) (rows : List Row)
    (old new : Option (List ℕ)) (packets : ℕ) : Type 0 where
  pub played : stands_for rows
  pub reached : Reached w runs rows
  pub told : new ≡ append_known old (encode (trace_of w.bound.channels rows))
  pub count : packets ≡ length (trace_of w.bound.channels rows).packets
  pub short : length (encode (trace_of w.bound.channels rows)) ≤ TRACE_LIMIT

-- Whole: the run has all its cycles. Unstable: the row behind it, that of this cycle, is unstable, on this channel.
abbrev pub EndsWith : Course → (Design → Values → Option Row → Type 0) → (List Row → Type 0) → Option (List ℕ) → Option (List ℕ) → Outcome
    → Type 0
EndsWith w runs stands_for old new (Whole packets) = (rows : List Row) × IsTheRunOf w rows None
    × IsRecorded w runs stands_for rows old new packets
EndsWith w runs stands_for old new (Unstable channel cycle packets) = (rows : List Row) × IsTheRunOf w rows (Some channel)
    × (cycle ≡ length rows) × IsRecorded w runs stands_for rows old new packets

-- whatever the design: the bytes are a front of the header and the rows' packets, with that of the reset which comes next, or, where the
-- rows are the run, of its trace's encoding
abbrev pub IsFrontOf : Course → List Row → List ℕ → Type 0
IsFrontOf w rows bytes = (lost : List ℕ)
    × ((bytes ++ lost ≡ header_bytes w.bound.channels ++ bytes_so_far w.bound.channels rows
    (turns_within w.bound.channels w.plan w.times w.cycles rows))
    ⊎ ((stop : Option ℕ) × IsTheRunOf w rows stop × (bytes ++ lost ≡ encode (trace_of w.bound.channels rows))))

-- the run is there, these are its first rows, and the bytes are a front of the encoding of its trace
abbrev pub IsFrontOfTheRun : Course → List Row → List ℕ → Type 0
IsFrontOfTheRun w rows bytes = ∥ ((all : List Row) × (stop : Option ℕ) × IsTheRunOf w all stop × (take (length rows) all ≡ rows)
    × ((lost : List ℕ) × (bytes ++ lost ≡ encode (trace_of w.bound.channels all)))) ∥₁

-- The environment stands for the first k rows of the run, the shell goes on behind them, and the sink has grown by a front of the encoding
-- of the run's trace. Where k isn't 0 the whole header is out, and all that drains after rows 0 to k - 2.
pub record IsCutOff (w : Course) (runs : Design → Values → Option Row → Type 0) (stands_for : List Row → Type 0)
    (old new : Option (List ℕ)) : Type 0 where
  pub rows : List Row
  pub bytes : List ℕ
  pub played : stands_for rows
  pub reached : Reached w runs rows
  pub within : length rows ≤ w.cycles
  pub told : new ≡ append_known old bytes
  pub front : IsFrontOf w rows bytes
  pub of_the_run : IsLawful w.design → IsFrontOfTheRun w rows bytes
  pub out : 0 < length rows → length (header_bytes w.bound.channels) + drained_but_last (sizes_of w.bound.channels) w.plan rows ≤ length bytes

-- why a recording was cut off, and what it leaves; what want of memory leaves is said by itself
abbrev pub FailsWith : Course → (Design → Values → Option Row → Type 0) → (List Row → Type 0) → Option (List ℕ) → Option (List ℕ)
    → RecordError → Type 0
FailsWith w runs stands_for old new WriteFault = IsCutOff w runs stands_for old new
FailsWith w runs stands_for old new Memory = Unit {0}

-- only where the sink's count of faults rose
abbrev pub FailsFor : ℕ → ℕ → RecordError → Type 0
FailsFor before now WriteFault = Rose before now
FailsFor before now Memory = Unit {0}
