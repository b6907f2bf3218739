-- The script that a text says (this project's profile).
use Rattle.std.specs.Prelude.{◌≡◌, ℕ, ◌+◌, ◌<◌, ◌++◌, ◌&&◌, Bool, true, slice_index_or, List, [], ◌∷◌, length, drop, codes, Option}
use Rattle.std.specs.Prelude.{Some, None, Result, Ok, Err}
use Rattle.std.specs.List.{prefix_len, list_all}
use Rattle.run_model.specs.trace_model.declared.channel.Channel.{Channel}
use Rattle.run_model.specs.vidi_bits.Findings.{first, IsFirst}
use Rattle.run_model.specs.chan_map.vidi_lines.declared.lines.Line.{Line}
use Rattle.env_script.specs.declared.error.ScriptError.{ScriptError}
use Rattle.env_script.specs.declared.error.ScriptError.TheVariants as E
use Rattle.env_script.specs.declared.gathered.Gathered.{Gathered}
use Rattle.env_script.specs.declared.said.ScriptLine.{ScriptLine}
use Rattle.env_script.specs.declared.said.ScriptLine.TheVariants.{Step, Reset}
use Rattle.env_script.specs.declared.script.Script.{Script}
use Rattle.env_script.specs.Used.{is_blank, number_in}
use Rattle.env_script.specs.Reasons.{said, line_faults, form_faults, all_said, names_channels, fits_numbers, channel_faults, number_faults}
use Rattle.env_script.specs.Reasons.{time_behind, later_faults, script_faults}
use Rattle.env_script.specs.Fits.{steps_of, FitsChannels}
use Rattle.env_script.specs.Steps.{steps_for, times_of}
use Rattle.env_script.specs.Told.{script_told}

-- a script of these cycles, with the steps that lines say for each channel, and the times of their resets
pub record IsScript (channels : List Channel) (cycles : ℕ) (lines : List ScriptLine) (script : Script) : Type 0 where
  pub cycles_are : script.cycles ≡ cycles
  pub lists : length script.steps ≡ length channels
  pub steps : (c : ℕ) → c < length channels → steps_of script c ≡ steps_for c lines
  pub resets_are : script.resets ≡ times_of lines

-- the lines from the first one with words on, which has number n, say this script
abbrev pub SaysBehind : List Channel → ℕ → Option ℕ → List (Option Line) → Script → Type 0
SaysBehind channels n None others script = ⊥
SaysBehind channels n (Some cycles) others script = IsScript channels cycles (all_said channels (n + 1) others) script

abbrev pub SaysFrom : List Channel → ℕ → List (Option Line) → Script → Type 0
SaysFrom channels n [] script = ⊥
SaysFrom channels n (head ∷ others) script = SaysBehind channels n (number_in (codes "cycles") head) others script

abbrev pub Says : List Channel → List (Option Line) → Script → Type 0
Says channels lines script = SaysFrom channels (prefix_len is_blank lines + 1) (drop (prefix_len is_blank lines) lines) script

-- a script exactly where nothing is found, and then the one that the lines say; else the first finding
abbrev pub ReadsScript : List Channel → List (Option Line) → Result Script ScriptError → Type 0
ReadsScript channels lines (Ok script) = (script_faults channels lines ≡ []) × Says channels lines script × FitsChannels channels script
ReadsScript channels lines (Err error) = IsFirst script_told (script_faults channels lines) error

-- ---- what is gathered on the way

-- a step without a fault, or a reset, whose time isn't asked here
abbrev pub is_lawful : List Channel → ScriptLine → Bool
is_lawful channels (Step l) = names_channels channels l && fits_numbers channels l
is_lawful channels (Reset line time) = true

-- the time of the last reset line of these, else the one before
abbrev pub last_time : ℕ → List ScriptLine → ℕ
last_time before [] = before
last_time before (l ∷ lines) = last_time (time_behind before l) lines

-- the times of the resets and the last of them; the first lines at fault by S2 and S3 of what was said; without any, the steps of each
-- channel
pub record IsGathered (channels : List Channel) (lines : List ScriptLine) (g : Gathered) : Type 0 where
  pub lists : length g.steps ≡ length channels
  pub channel : g.channel ≡ first (channel_faults channels lines)
  pub number : g.number ≡ first (number_faults channels lines)
  pub steps : list_all (is_lawful channels) lines ≡ true
      → (c : ℕ) → c < length channels → slice_index_or g.steps c [] ≡ steps_for c lines
  pub resets : g.resets ≡ times_of lines
  pub last : g.last ≡ last_time 0 lines

-- the first line of no form; want of memory is free
abbrev pub IsFirstLine : List ℕ → ScriptError → Type 0
IsFirstLine faults E.Memory = Unit {0}
IsFirstLine faults (E.Line line) = first faults ≡ Some line
IsFirstLine faults (E.Channel line) = ⊥
IsFirstLine faults (E.Number line) = ⊥

-- what reading a line does to what is gathered
abbrev pub TakesLine : List Channel → ℕ → Option Line → Gathered → Gathered → Result (Unit {0}) ScriptError → Type 0
TakesLine channels n line old new (Ok done) = (line_faults channels n line ≡ [])
    × ((before : List ScriptLine) → IsGathered channels before old → IsGathered channels (before ++ said channels n line) new)
TakesLine channels n line old new (Err error) = IsFirstLine (line_faults channels n line) error

-- what reading lines gathers, the first having number n
abbrev pub Gathers : List Channel → ℕ → List (Option Line) → Result Gathered ScriptError → Type 0
Gathers channels n lines (Ok g) = (form_faults channels n lines ≡ []) × IsGathered channels (all_said channels n lines) g
Gathers channels n lines (Err error) = IsFirstLine (form_faults channels n lines) error

-- what is answered at the end
abbrev pub Finishes : List Channel → ℕ → ℕ → List ScriptLine → Result Script ScriptError → Type 0
Finishes channels n cycles lines (Ok script) = (later_faults channels n cycles lines ≡ []) × IsScript channels cycles lines script
    × FitsChannels channels script
Finishes channels n cycles lines (Err error) = first (later_faults channels n cycles lines) ≡ Some error
