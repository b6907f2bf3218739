-- `dump`: one answer.
use Rattle.std.proofs.Common.{List, ℕ, Some}
use Rattle.vidi_commands.specs.trace_code.Decoding.{OnePlace, OneReading}
use Rattle.vidi_commands.specs.vidi_io.Shelf.{Files}
use Rattle.vidi_commands.specs.report_text.declared.reason.Word.TheVariants as words
use Rattle.vidi_commands.specs.vidi_bench.vidi_answer.declared.status.Status.TheVariants.{Done}
use Rattle.vidi_commands.specs.vidi_bench.Steps.{IsSaid}
use Rattle.vidi_commands.specs.Said.{dump_text}
use Rattle.vidi_commands.specs.trace_commands.Traces.{trace_limit, Decoding, Dumps}
use Rattle.vidi_laws.proofs.OneEnding.{One, one-said, one-reading}
use Rattle.vidi_laws.proofs.OneTraces.{one-decoding}

pub one_dump : OneReading → OnePlace → (trace : List ℕ) (files : Files) → One (Dumps trace (Some files) (λ _. ⊥))
one_dump reading place trace files = one-reading trace_limit words.Trace trace files
    (λ file. Decoding words.Trace file (λ t. IsSaid Done (dump_text t)))
    (λ file. one-decoding reading place words.Trace file (λ t. IsSaid Done (dump_text t)) (λ t. one-said Done (dump_text t)))
