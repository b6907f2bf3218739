-- The lines of the rows of a run (this project's profile): its starts and ends, cycle by cycle.
use Rattle.std.specs.Prelude.{ℕ, List, [], ◌++◌, codes, decimal, if◌then◌else◌}
use Rattle.std.specs.List.{flat_map, enumerate_from}
use Rattle.text_page.specs.vidi_io.vidi_bits.Number.{has}
use Rattle.run_model.specs.trace_model.declared.channel.Channel.{Channel}
use Rattle.run_model.specs.trace_model.declared.row.Row.{Row}
use Rattle.run_model.specs.trace_model.Row.{content_at}
use Rattle.report_text.specs.Text.{newline, spaced}
use Rattle.report_text.specs.Trace.{reset_line}

-- `T start CH V ..` for each channel that starts in cycle T, with its content in the row
abbrev pub row_start : List Channel → ℕ → Row → ℕ × Channel → List ℕ
row_start channels t row x = decimal t ++ (codes " start " ++ (x.1.name ++ (spaced (content_at channels row.contents x.0) ++ newline)))

abbrev pub row_starts : List Channel → ℕ → Row → List ℕ
row_starts channels t row = flat_map (λ (x : ℕ × Channel). if has row.starts x.0 then row_start channels t row x else [])
    (enumerate_from 0 channels)

-- `T end CH` for each channel that completes in cycle T
abbrev pub row_end : ℕ → ℕ × Channel → List ℕ
row_end t x = decimal t ++ (codes " end " ++ (x.1.name ++ newline))

abbrev pub row_ends : List Channel → ℕ → Row → List ℕ
row_ends channels t row = flat_map (λ (x : ℕ × Channel). if has row.ends x.0 then row_end t x else []) (enumerate_from 0 channels)

-- `T reset` where the design was reset before cycle T, then the cycle's starts in channel order, then its ends
abbrev pub row_lines : List Channel → ℕ × Row → List ℕ
row_lines channels x = reset_line x.0 x.1.fresh ++ (row_starts channels x.0 x.1 ++ row_ends channels x.0 x.1)

-- what `run` prints of its rows
abbrev pub rows_text : List Row → List Channel → List ℕ
rows_text rows channels = flat_map (row_lines channels) (enumerate_from 0 rows)

-- what `run` prints: the lines of its rows, and a last line
abbrev pub run_text : List Row → List Channel → List ℕ → List ℕ
run_text rows channels last = rows_text rows channels ++ last
