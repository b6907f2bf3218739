-- S1, S2 and S3: why a script is refused (this project's profile). Channels are those of the map.
use Rattle.std.specs.Prelude.{ℕ, ◌+◌, ◌^◌, ◌||◌, ◌&&◌, not, Bool, true, false, nat_lt, is_some, List, [], ◌∷◌}
use Rattle.std.specs.Prelude.{◌++◌, map, drop, slice_get, codes, Option, Some, None}
use Rattle.std.specs.List.{flat_map, prefix_len}
use Rattle.std.specs.Option.{option_to_list}
use Rattle.run_model.specs.trace_model.Channel.{between}
use Rattle.run_model.specs.trace_model.declared.channel.Channel.{Channel}
use Rattle.run_model.specs.trace_model.declared.channel.Dir.{Dir}
use Rattle.run_model.specs.trace_model.declared.channel.Dir.TheVariants.{Inward, Outward}
use Rattle.run_model.specs.vidi_bits.Findings.{is_nil, told_if}
use Rattle.run_model.specs.chan_map.vidi_lines.declared.lines.Line.{Line}
use Rattle.run_model.specs.chan_map.vidi_lines.Lines.{file_lines, line_unless_bad}
use Rattle.run_model.specs.trace_model.declared.packet.TheConstants.{MOST_CYCLES}
use Rattle.env_script.specs.declared.error.ScriptError.{ScriptError}
use Rattle.env_script.specs.declared.error.ScriptError.TheVariants as E
use Rattle.env_script.specs.declared.said.Said.{Said}
use Rattle.env_script.specs.declared.said.Said.TheVariants.{Send, Take, TakeAll, Wait, After}
use Rattle.env_script.specs.declared.said.StepLine.{StepLine}
use Rattle.env_script.specs.declared.said.ScriptLine.{ScriptLine}
use Rattle.env_script.specs.declared.said.ScriptLine.TheVariants.{Step, Reset}
use Rattle.env_script.specs.declared.script.TheConstants.{LATEST_RESET}
use Rattle.env_script.specs.Used.{is_blank, number_in}
use Rattle.env_script.specs.Forms.{script_line}

-- ---- S1: each line behind the first one with words has none, or the form of a step or a reset; a bad line, which is None, has no form

abbrev pub said : List Channel → ℕ → Option Line → List ScriptLine
said channels n None = []
said channels n (Some line) = option_to_list (script_line channels n line.words)

abbrev pub has_form : List Channel → ℕ → Option Line → Bool
has_form channels n line = is_blank line || not (is_nil (said channels n line))

abbrev pub line_faults : List Channel → ℕ → Option Line → List ℕ
line_faults channels n line = told_if (not (has_form channels n line)) n

-- the numbers of the lines of no form, the first line having number n
abbrev pub form_faults : List Channel → ℕ → List (Option Line) → List ℕ
form_faults channels n [] = []
form_faults channels n (line ∷ lines) = line_faults channels n line ++ form_faults channels (n + 1) lines

-- what the lines say
abbrev pub all_said : List Channel → ℕ → List (Option Line) → List ScriptLine
all_said channels n [] = []
all_said channels n (line ∷ lines) = said channels n line ++ all_said channels (n + 1) lines

-- ---- S2: a channel that isn't in the map, `send` on an outward or `take` on an inward one

abbrev pub channel_at : List Channel → Option ℕ → Option Channel
channel_at channels None = None
channel_at channels (Some c) = slice_get channels c

abbrev pub is_inward : Dir → Bool
is_inward Inward = true
is_inward Outward = false

abbrev pub suits : List Channel → Dir → Said → Bool
suits channels dir (Send content) = is_inward dir
suits channels dir (Take count) = not (is_inward dir)
suits channels dir TakeAll = not (is_inward dir)
suits channels dir (Wait cycles) = true
suits channels dir (After other count) = is_some (channel_at channels other)

abbrev pub suits_channel : List Channel → Option Channel → Said → Bool
suits_channel channels None said = false
suits_channel channels (Some channel) said = suits channels channel.dir said

abbrev pub names_channels : List Channel → StepLine → Bool
names_channels channels l = suits_channel channels (channel_at channels l.channel) l.said

-- a reset names no channel
abbrev pub channel_fault : List Channel → ScriptLine → List ℕ
channel_fault channels (Step l) = told_if (not (names_channels channels l)) l.line
channel_fault channels (Reset line time) = []

abbrev pub channel_faults : List Channel → List ScriptLine → List ℕ
channel_faults channels lines = flat_map (channel_fault channels) lines

-- ---- S3: `wait` not 1 to the most cycles of a run, `take` and `after` not 1 to 4,294,967,295, a `send` whose numbers aren't as many as the
-- content ports or don't fit them, the time of a reset not 1 to the greatest or not above that of the reset line before it

abbrev pub is_small : Said → Bool
is_small (Send content) = true
is_small (Take count) = between 1 4294967295 count
is_small TakeAll = true
is_small (Wait cycles) = between 1 MOST_CYCLES cycles
is_small (After other count) = between 1 4294967295 count

abbrev pub fits_ports : List ℕ → List ℕ → Bool
fits_ports [] [] = true
fits_ports [] (x ∷ xs) = false
fits_ports (w ∷ ws) [] = false
fits_ports (w ∷ ws) (x ∷ xs) = nat_lt x (2 ^ w) && fits_ports ws xs

abbrev pub fits_content : List ℕ → Said → Bool
fits_content widths (Send content) = fits_ports widths content
fits_content widths (Take count) = true
fits_content widths TakeAll = true
fits_content widths (Wait cycles) = true
fits_content widths (After other count) = true

abbrev pub fits_channel : Option Channel → Said → Bool
fits_channel None said = true
fits_channel (Some channel) said = fits_content channel.widths said

abbrev pub fits_numbers : List Channel → StepLine → Bool
fits_numbers channels l = is_small l.said && fits_channel (channel_at channels l.channel) l.said

-- a time that is above that of the reset line before it, or above 0 where none is before it
abbrev pub is_time : ℕ → ℕ → Bool
is_time before time = between 1 LATEST_RESET time && nat_lt before time

abbrev pub number_fault : List Channel → ℕ → ScriptLine → List ℕ
number_fault channels before (Step l) = told_if (not (fits_numbers channels l)) l.line
number_fault channels before (Reset line time) = told_if (not (is_time before time)) line

-- the time of this line where it is a reset's, else the one before
abbrev pub time_behind : ℕ → ScriptLine → ℕ
time_behind before (Step l) = before
time_behind before (Reset line time) = time

-- One list of both kinds in the order of the lines. `before` is the time of the reset line before these lines, in the file, also where that
-- line is itself at fault: behind `reset at 5` and `reset at 3` the line `reset at 4` isn't at fault. The first of all is the same where
-- the greatest time before counts, since before the first line at fault the times increase.
abbrev pub faults_after : List Channel → ℕ → List ScriptLine → List ℕ
faults_after channels before [] = []
faults_after channels before (l ∷ lines) = number_fault channels before l ++ faults_after channels (time_behind before l) lines

abbrev pub number_faults : List Channel → List ScriptLine → List ℕ
number_faults channels lines = faults_after channels 0 lines

-- ---- the three steps over a whole script

-- S2 and then S3, where the line with number n says `cycles N` and the lines behind it say this; N is 1 to the most
abbrev pub later_faults : List Channel → ℕ → ℕ → List ScriptLine → List ScriptError
later_faults channels n cycles lines = map (λ (m : ℕ). E.Channel m) (channel_faults channels lines)
    ++ map (λ (m : ℕ). E.Number m) (told_if (not (between 1 MOST_CYCLES cycles)) n ++ number_faults channels lines)

-- the first line with words, which has number n, says `cycles N` or isn't one of that form
abbrev pub faults_behind : List Channel → ℕ → Option ℕ → List (Option Line) → List ScriptError
faults_behind channels n None others = E.Line n ∷ []
faults_behind channels n (Some cycles) others =
    map (λ (m : ℕ). E.Line m) (form_faults channels (n + 1) others) ++ later_faults channels n cycles (all_said channels (n + 1) others)

-- without any line with words the number is the last line's plus 1
abbrev pub faults_from : List Channel → ℕ → List (Option Line) → List ScriptError
faults_from channels n [] = E.Line n ∷ []
faults_from channels n (head ∷ others) = faults_behind channels n (number_in (codes "cycles") head) others

-- the first lines, which have no words, are passed over
abbrev pub script_faults : List Channel → List (Option Line) → List ScriptError
script_faults channels lines = faults_from channels (prefix_len is_blank lines + 1) (drop (prefix_len is_blank lines) lines)

-- the lines of a file, None for a bad one
abbrev pub read_lines : List ℕ → List (Option Line)
read_lines bytes = map line_unless_bad (file_lines bytes)
