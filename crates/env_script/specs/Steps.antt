-- The steps and the times of resets that lines say (this project's profile).
use Rattle.std.specs.Prelude.{ℕ, ◌==◌, Bool, false, if◌then◌else◌, List, [], ◌∷◌, Option, Some, None}
use Rattle.std.specs.List.{flat_map}
use Rattle.std.specs.Option.{option_to_list}
use Rattle.env_script.specs.declared.said.Said.{Said}
use Rattle.env_script.specs.declared.said.Said.TheVariants.{Send, Take, TakeAll, Wait, After}
use Rattle.env_script.specs.declared.said.StepLine.{StepLine}
use Rattle.env_script.specs.declared.said.ScriptLine.{ScriptLine}
use Rattle.env_script.specs.declared.said.ScriptLine.TheVariants as L
use Rattle.env_script.specs.declared.script.Step.{Step}
use Rattle.env_script.specs.declared.script.Step.TheVariants as S

-- the step that is said; `after` needs a channel
abbrev pub made : Said → Option Step
made (Send content) = Some (S.Send content)
made (Take count) = Some (S.Take count)
made TakeAll = Some S.TakeAll
made (Wait cycles) = Some (S.Wait cycles)
made (After None count) = None
made (After (Some other) count) = Some (S.After other count)

abbrev pub is_of : ℕ → Option ℕ → Bool
is_of c None = false
is_of c (Some d) = c == d

-- the step of channel c that a line says, where it names that channel
abbrev pub step_for : ℕ → StepLine → List Step
step_for c l = if is_of c l.channel then option_to_list (made l.said) else []

abbrev pub steps_in : ℕ → ScriptLine → List Step
steps_in c (L.Step l) = step_for c l
steps_in c (L.Reset line time) = []

-- the steps of channel c that lines say, in their order
abbrev pub steps_for : ℕ → List ScriptLine → List Step
steps_for c lines = flat_map (steps_in c) lines

abbrev pub time_in : ScriptLine → List ℕ
time_in (L.Step l) = []
time_in (L.Reset line time) = time ∷ []

-- the times of the reset lines among these, in their order
abbrev pub times_of : List ScriptLine → List ℕ
times_of lines = flat_map time_in lines
