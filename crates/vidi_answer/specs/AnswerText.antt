-- The text that an answer is said with.
use Rattle.std.specs.Prelude.{ℕ, List}
use Rattle.report_text.specs.Pad.{shown}
use Rattle.report_text.specs.Rows.{run_text}
use Rattle.report_text.specs.Trace.{dump_text}
use Rattle.vidi_answer.specs.declared.answer.AnswerText.{AnswerText}
use Rattle.vidi_answer.specs.declared.answer.AnswerText.TheVariants.{Bytes, Trace, Run, Line}

abbrev pub text_of : AnswerText → List ℕ
text_of (Bytes bytes) = bytes
text_of (Trace lines) = dump_text lines.trace
text_of (Run lines) = run_text lines.rows lines.channels lines.last
text_of (Line pad) = shown pad
