-- The answers for a file that could not be read.
use Rattle.std.specs.Prelude.{◌≡◌, ℕ, List}
use Rattle.report_text.specs.vidi_io.declared.reading.ReadError.{ReadError}
use Rattle.report_text.specs.vidi_io.declared.reading.ReadError.TheVariants as errors
use Rattle.report_text.specs.declared.reason.Word.{Word}
use Rattle.report_text.specs.declared.reason.Reason.TheVariants.{TooLong}
use Rattle.vidi_answer.specs.declared.status.Status.{Status}
use Rattle.vidi_answer.specs.declared.status.Status.TheVariants.{ReadFault, Refused}
use Rattle.report_text.specs.Reason.{read_fault_line, reason_line}

abbrev pub IsUnfetched : Word → ReadError → Status → List ℕ → Type 0
IsUnfetched word errors.Missing status text = (status ≡ ReadFault word) × (text ≡ read_fault_line word)
IsUnfetched word errors.Failed status text = (status ≡ ReadFault word) × (text ≡ read_fault_line word)
IsUnfetched word (errors.TooLong limit) status text = (status ≡ Refused word (TooLong limit)) × (text ≡ reason_line word (TooLong limit))
IsUnfetched word errors.Memory status text = ⊥
