-- What is known of `record`.
use Rattle.std.proofs.Common.{◌≡◌, ℕ, Bool, false, List, Option, None, Some, inl, inr, subst}
use Rattle.wrap_command.specs.trace_model.declared.channel.Channel.{Channel}
use Rattle.wrap_command.specs.trace_model.declared.row.Row.{Row}
use Rattle.wrap_command.specs.vidi_io.Shelf.{Files}
use Rattle.wrap_command.specs.vidi_bench.vidi_answer.declared.status.Status.{Status}
use Rattle.sample_command.specs.run_commands.Records.{IsRecorded, Records, StopsRecording}
use Rattle.vidi_commands.specs.Answer.{StartsNone}
use Rattle.sample_command.proofs.run_commands_lemmas.QuietTexts.{mute-records, quiet-records}
use Rattle.vidi_commands.proofs.Facts.{Facts, Once}

recorded-starts : (channels : List Channel) (rows : List Row) (stop : Option ℕ) (status : Status) (text : List ℕ)
    → IsRecorded channels rows stop status text → StartsNone status → ⊥
recorded-starts channels rows None status text said is = subst StartsNone said.0 is
recorded-starts channels rows (Some c) status text said is = subst StartsNone said.0 is

records-once : (design map script stalls trace : List ℕ) (files : Option Files) (F : List ℕ → Type 0)
    (P : Bool → Type 0) (status : Status) (text : List ℕ) (left : Option Files)
    → Records design map script stalls trace files F P status text left → Once P
records-once design map script stalls trace files F P status text left (inl (u, (same, none))) = (false, none)
records-once design map script stalls trace files F P status text left
    (inr (b, plan, planned, (rows, stop, (run, held, (once, is, told)), said))) = (once, is)

records-none : (design map script stalls trace : List ℕ) (files : Option Files) (F : List ℕ → Type 0)
    (P : Bool → Type 0) (status : Status) (text : List ℕ) (left : Option Files)
    → Records design map script stalls trace files F P status text left → StartsNone status → P false
records-none design map script stalls trace files F P status text left (inl (u, (same, none))) is = none
records-none design map script stalls trace files F P status text left (inr (b, plan, planned, (rows, stop, leaves, said))) is =
    absurd (recorded-starts _ rows stop status text said is)

stopped-once : (design map script stalls trace : List ℕ) (files : Option Files) (P : Bool → Type 0) (left : Option Files)
    → StopsRecording design map script stalls trace files P left → Once P
stopped-once design map script stalls trace files P left (b, plan, planned, inl (none, same)) = (false, none)
stopped-once design map script stalls trace files P left (b, plan, planned, inr (once, is, rows, bytes, run, front, held, empty)) = (once, is)

pub record-facts : (design map script stalls trace : List ℕ)
    → Facts (Records design map script stalls trace) (StopsRecording design map script stalls trace)
record-facts design map script stalls trace = record {
  mute = mute-records design map script stalls trace;
  quiet = quiet-records design map script stalls trace;
  once = records-once design map script stalls trace;
  none = records-none design map script stalls trace;
  stopped = stopped-once design map script stalls trace;
}
