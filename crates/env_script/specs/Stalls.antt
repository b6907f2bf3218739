-- P1, and the plan of stalls that a text says (this project's profile).
use Rattle.std.specs.Prelude.{◌≡◌, ℕ, ◌+◌, ◌||◌, not, Bool, true, false, if◌then◌else◌, nat_le, is_some, List, [], ◌∷◌, ◌++◌, drop, codes}
use Rattle.std.specs.Prelude.{Option, Some, None, Result, Ok, Err}
use Rattle.std.specs.List.{prefix_len}
use Rattle.std.specs.Str.{bytes_eq}
use Rattle.std.specs.Option.{option_to_list}
use Rattle.run_model.specs.trace_model.Channel.{between}
use Rattle.run_model.specs.vidi_bits.Findings.{first, told_if}
use Rattle.run_model.specs.chan_map.vidi_lines.declared.lines.Line.{Line}
use Rattle.run_model.specs.chan_map.vidi_lines.Number.{number_of}
use Rattle.run_model.specs.trace_model.declared.packet.TheConstants.{MOST_CYCLES}
use Rattle.env_script.specs.declared.error.StallError.{StallError}
use Rattle.env_script.specs.declared.error.StallError.TheVariants as E
use Rattle.env_script.specs.declared.stalls.Drain.{Drain}
use Rattle.env_script.specs.declared.stalls.Stalls.{Stalls}
use Rattle.env_script.specs.Used.{is_blank, number_in}

-- the number where the test holds
abbrev pub kept_if : (ℕ → Bool) → Option ℕ → Option ℕ
kept_if test None = None
kept_if test (Some n) = if test n then Some n else None

-- `capacity N`, N 1 to 16,777,216
abbrev pub capacity_in : Option Line → Option ℕ
capacity_in line = kept_if (between 1 16777216) (number_in (codes "capacity") line)

abbrev pub amount_under : Option ℕ → Option (Option ℕ)
amount_under None = None
amount_under (Some n) = if nat_le n 16777216 then Some (Some n) else None

-- `all`, or a number of bytes, 0 to 16,777,216
abbrev pub amount_of : List ℕ → Option (Option ℕ)
amount_of word = if bytes_eq word (codes "all") then Some None else amount_under (number_of word)

-- a number of cycles, 1 to the most of a run
abbrev pub cycles_of : List ℕ → Option ℕ
cycles_of word = kept_if (between 1 MOST_CYCLES) (number_of word)

abbrev pub drain_with : Option (Option ℕ) → Option ℕ → Option Drain
drain_with (Some allowance) (Some cycles) = Some (record { allowance = allowance; cycles = cycles })
drain_with (Some allowance) None = None
drain_with None cycles = None

-- `drain B K` and `drain all K`
abbrev pub drain_of : List (List ℕ) → Option Drain
drain_of (word ∷ amount ∷ cycles ∷ []) = if bytes_eq word (codes "drain") then drain_with (amount_of amount) (cycles_of cycles) else None
drain_of words = None

abbrev pub drain_in : Option Line → Option Drain
drain_in None = None
drain_in (Some line) = drain_of line.words

-- a line has no words or says what drains; a bad one, which is None, says nothing
abbrev pub is_drain : Option Line → Bool
is_drain line = is_blank line || is_some (drain_in line)

abbrev pub drain_faults : ℕ → List (Option Line) → List ℕ
drain_faults n [] = []
drain_faults n (line ∷ lines) = told_if (not (is_drain line)) n ++ drain_faults (n + 1) lines

-- what lines say, in their order
abbrev pub all_drains : List (Option Line) → List Drain
all_drains [] = []
all_drains (line ∷ lines) = option_to_list (drain_in line) ++ all_drains lines

-- the first line with words, which has number n, says the capacity or isn't of that form
abbrev pub plan_behind : ℕ → Option ℕ → List (Option Line) → List ℕ
plan_behind n None others = n ∷ []
plan_behind n (Some capacity) others = drain_faults (n + 1) others

-- without any line with words the number is the last line's plus 1
abbrev pub plan_from : ℕ → List (Option Line) → List ℕ
plan_from n [] = n ∷ []
plan_from n (head ∷ others) = plan_behind n (capacity_in head) others

-- P1 over a whole plan: the lines at fault
abbrev pub plan_faults : List (Option Line) → List ℕ
plan_faults lines = plan_from (prefix_len is_blank lines + 1) (drop (prefix_len is_blank lines) lines)

-- the lines from the first one with words on say this plan
abbrev pub PlansFrom : List (Option Line) → Stalls → Type 0
PlansFrom [] stalls = ⊥
PlansFrom (head ∷ others) stalls = (capacity_in head ≡ Some stalls.capacity) × (stalls.drains ≡ all_drains others)

-- a plan exactly where nothing is found, and then the one that the lines say; else the first finding; want of memory is free
abbrev pub ReadsStalls : List (Option Line) → Result Stalls StallError → Type 0
ReadsStalls lines (Ok stalls) = (plan_faults lines ≡ []) × PlansFrom (drop (prefix_len is_blank lines) lines) stalls
ReadsStalls lines (Err (E.Line line)) = first (plan_faults lines) ≡ Some line
ReadsStalls lines (Err E.Memory) = Unit {0}

-- what reading a line adds
abbrev pub TakesDrain : ℕ → Option Line → List Drain → List Drain → Result (Unit {0}) StallError → Type 0
TakesDrain n line old new (Ok done) = (is_drain line ≡ true) × (new ≡ old ++ option_to_list (drain_in line))
TakesDrain n line old new (Err (E.Line m)) = (is_drain line ≡ false) × (m ≡ n)
TakesDrain n line old new (Err E.Memory) = Unit {0}

abbrev pub ReadsDrains : ℕ → List (Option Line) → Result (List Drain) StallError → Type 0
ReadsDrains n lines (Ok drains) = (drain_faults n lines ≡ []) × (drains ≡ all_drains lines)
ReadsDrains n lines (Err (E.Line line)) = first (drain_faults n lines) ≡ Some line
ReadsDrains n lines (Err E.Memory) = Unit {0}
