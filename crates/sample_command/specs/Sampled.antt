-- The files of a sample, and what a recording on a shelf in memory gives.
use Rattle.std.specs.Prelude.{◌≡◌, ℕ, ◌≤◌, List, Option, None, Some, IsSomeAnd, codes, length}
use Rattle.std.specs.FinMap.{get}
use Rattle.sample_gen.specs.trace_model.declared.row.Row.{Row}
use Rattle.sample_gen.specs.trace_model.Recording.{trace_of}
use Rattle.replay_command.specs.trace_code.Encoding.{encode}
use Rattle.replay_command.specs.vidi_io.declared.mem_shelf.MemShelf.{MemShelf}
use Rattle.replay_command.specs.vidi_io.Entries.{files_of}
use Rattle.replay_command.specs.vidi_io.MemShelf.{entries}
use Rattle.sample_gen.specs.declared.files.Sample.{Sample}
use Rattle.run_commands.specs.vidi_recorder.Course.{Course, IsTheRunOf}
use Rattle.replay_command.specs.vidi_bench.Design.{text_limit}
use Rattle.run_commands.specs.Records.{IsRecorded}
use Rattle.replay_command.specs.vidi_bench.Steps.{Ending}

-- no text is longer than its limit
pub record AreShort (x : Sample) : Type 0 where
  pub design : length x.design ≤ text_limit
  pub map : length x.map ≤ text_limit
  pub script : length x.script ≤ text_limit
  pub stalls : length x.stalls ≤ text_limit

-- the file `trace`
abbrev pub trace_on : MemShelf → Option (List ℕ)
trace_on shelf = get (files_of (entries shelf)) (codes "trace")

-- it is there, and P holds of its bytes
abbrev pub HasTrace : (List ℕ → Type 0) → MemShelf → Type 0
HasTrace P shelf = IsSomeAnd (trace_on shelf) P

-- the encoding of the trace of the whole run
abbrev pub IsTraceOf : Course → List ℕ → Type 0
IsTraceOf w bytes = (rows : List Row) × IsTheRunOf w rows None × (bytes ≡ encode (trace_of w.bound.channels rows))

-- the run ends before an unstable row
abbrev pub IsUnstable : Course → Ending
IsUnstable w status said = (rows : List Row) × (channel : ℕ) × IsTheRunOf w rows (Some channel)
    × IsRecorded w.bound.channels rows (Some channel) status said
