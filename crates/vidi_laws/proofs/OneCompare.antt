-- `compare`: one answer.
use Rattle.std.proofs.Common.{ℕ, List, Some, slice_get, inl, inr, ap}
use Rattle.vidi_commands.specs.trace_model.declared.channel.Channel.{Channel}
use Rattle.vidi_commands.specs.trace_model.declared.trace.Trace.{Trace}
use Rattle.vidi_commands.specs.trace_code.Decoding.{OnePlace, OneReading}
use Rattle.vidi_commands.specs.vidi_io.Shelf.{Files}
use Rattle.vidi_commands.specs.report_text.declared.reason.Word.TheVariants as words
use Rattle.vidi_commands.specs.vidi_bench.Reading.{Reading}
use Rattle.vidi_commands.specs.Said.{no_divergence_line}
use Rattle.vidi_commands.specs.trace_commands.Traces.{trace_limit, Decoding, Compared, ComparedFiles, Compares}
use Rattle.vidi_laws.proofs.OneEnding.{One, one-reading}
use Rattle.vidi_laws.proofs.OneTraces.{one-decoding, one-other, one-verdict}

one-compared : (t u : Trace) → One (Compared t u)
one-compared t u a b x y (inl o) (inl p) = one-other words.Other t.channels u.channels a b x y o p
one-compared t u a b x y (inl (at, same, other, s)) (inr (equal, v)) = absurd (other (ap (λ (cs : List Channel). slice_get cs at) equal))
one-compared t u a b x y (inr (equal, v)) (inl (at, same, other, s)) = absurd (other (ap (λ (cs : List Channel). slice_get cs at) equal))
one-compared t u a b x y (inr (equal, v)) (inr (equal', w)) = one-verdict no_divergence_line t u a b x y v w

pub one_compare : OneReading → OnePlace → (trace other : List ℕ) (files : Files) → One (Compares trace other (Some files) (λ _. ⊥))
one_compare reading place trace other files = one-reading trace_limit words.Trace trace files
    (λ first. Reading trace_limit words.Other other (Some files) (λ _. ⊥) (ComparedFiles first))
    (λ first. one-reading trace_limit words.Other other files (ComparedFiles first)
    (λ second. one-decoding reading place words.Trace first (λ t. Decoding words.Other second (Compared t))
    (λ t. one-decoding reading place words.Other second (Compared t) (one-compared t))))
