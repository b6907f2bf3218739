-- The times of resets in mid-run (this project's profile).
use Rattle.std.specs.Prelude.{ℕ, ◌+◌, ◌<◌, ◌≤◌, Bool, false, nat_le, if◌then◌else◌, List, [], ◌∷◌, All, Option, Some, None, slice_get, length}
use Rattle.std.specs.List.{AllPairs}
use Rattle.run_model.specs.trace_model.declared.row.Row.{Row}
use Rattle.run_model.specs.trace_model.Epoch.{restarts}
use Rattle.run_model.specs.chan_map.vidi_lines.declared.lines.Line.{Line}
use Rattle.env_script.specs.Forms.{is_reset}

-- times increase, and each is at least 1
pub record AreTimes (times : List ℕ) : Type 0 where
  pub increasing : AllPairs (λ earlier later. earlier < later) times
  pub some : All (λ time. 1 ≤ time) times

abbrev pub is_by : Option ℕ → ℕ → Bool
is_by None t = false
is_by (Some time) t = nat_le time t

-- whether there is the time with number `done`, counted from 0, and it is at most t
abbrev pub is_due : List ℕ → ℕ → ℕ → Bool
is_due times done t = is_by (slice_get times done) t

-- whether a reset comes behind these rows, of which as many are fresh as came before
abbrev pub is_due_behind : List ℕ → List Row → Bool
is_due_behind times rows = is_due times (restarts rows) (length rows)

-- a line whose first word is `reset` and whose second is `at`; a bad one, which is None, isn't one
abbrev pub begins_reset : Option Line → Bool
begins_reset None = false
begins_reset (Some line) = is_reset line.words

-- the number of the first such line, where the first of these has number n
abbrev pub first_reset : ℕ → List (Option Line) → Option ℕ
first_reset n [] = None
first_reset n (line ∷ lines) = if begins_reset line then Some n else first_reset (n + 1) lines
