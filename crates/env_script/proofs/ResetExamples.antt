-- Reset lines on worked texts, and which of their lines are at fault, found by hand.
use Rattle.std.specs.Prelude.{◌≡◌, ℕ, true, false, List, [], ◌∷◌, ◌++◌, map, codes, Option, Some, None, refl}
use Rattle.run_model.proofs.trace_model_lemmas.Examples.{pass}
use Rattle.run_model.specs.chan_map.vidi_lines.Lines.{file_lines, is_bad, words_between}
use Rattle.run_model.specs.vidi_bits.Findings.{first}
use Rattle.env_script.specs.declared.error.ScriptError.{ScriptError}
use Rattle.env_script.specs.declared.error.ScriptError.TheVariants as E
use Rattle.env_script.specs.declared.said.Said.TheVariants.{Wait}
use Rattle.env_script.specs.declared.said.ScriptLine.{ScriptLine}
use Rattle.env_script.specs.declared.said.ScriptLine.TheVariants.{Step, Reset}
use Rattle.env_script.specs.Forms.{keyword_of}
use Rattle.env_script.specs.Reasons.{read_lines, all_said, number_faults, script_faults}
use Rattle.env_script.specs.Resets.{is_due, first_reset}
use Rattle.env_script.specs.Steps.{times_of}

abbrev fault : List ℕ → Option ScriptError
fault bytes = first (script_faults pass (read_lines bytes))

-- the times of the reset lines of a text
abbrev times : List ℕ → List ℕ
times bytes = times_of (all_said pass 1 (read_lines bytes))

lawful : fault (codes "cycles 4" ++ 10 ∷ codes "reset at 1" ++ 10 ∷ codes "reset at 49999") ≡ None
unfolding file_lines is_bad words_between keyword_of
lawful = refl

both_times : times (codes "cycles 4" ++ 10 ∷ codes "reset at 1" ++ 10 ∷ codes "a send 5" ++ 10 ∷ codes "reset at 3") ≡ 1 ∷ 3 ∷ []
unfolding file_lines is_bad words_between keyword_of
both_times = refl

without_at : fault (codes "cycles 4" ++ 10 ∷ codes "reset 2") ≡ Some (E.Line 2)
unfolding file_lines is_bad words_between keyword_of
without_at = refl

without_time : fault (codes "cycles 4" ++ 10 ∷ codes "reset at") ≡ Some (E.Line 2)
unfolding file_lines is_bad words_between keyword_of
without_time = refl

fourth_word : fault (codes "cycles 4" ++ 10 ∷ codes "reset at 2 3") ≡ Some (E.Line 2)
unfolding file_lines is_bad words_between keyword_of
fourth_word = refl

no_number : fault (codes "cycles 4" ++ 10 ∷ codes "reset at x") ≡ Some (E.Line 2)
unfolding file_lines is_bad words_between keyword_of
no_number = refl

at_0 : fault (codes "cycles 8" ++ 10 ∷ codes "reset at 0") ≡ Some (E.Number 2)
unfolding file_lines is_bad words_between keyword_of
at_0 = refl

at_50000 : fault (codes "cycles 8" ++ 10 ∷ codes "reset at 50000") ≡ Some (E.Number 2)
unfolding file_lines is_bad words_between keyword_of
at_50000 = refl

-- one list in the order of the lines, whatever the lines are; a step here is at fault by its number
abbrev wrong : ℕ → ScriptLine
wrong n = Step record { line = n; channel = Some 0; said = Wait 0 }

in_order : number_faults pass (Reset 2 0 ∷ wrong 3 ∷ Reset 4 5 ∷ wrong 5 ∷ Reset 6 5 ∷ Reset 7 6 ∷ []) ≡ 2 ∷ 3 ∷ 5 ∷ 6 ∷ []
in_order = refl

-- the reset line before it, also where it is itself at fault
before_it : number_faults pass (Reset 2 5 ∷ Reset 3 3 ∷ Reset 4 4 ∷ []) ≡ 3 ∷ []
before_it = refl

due : map (is_due (2 ∷ 5 ∷ []) 0) (1 ∷ 2 ∷ 3 ∷ []) ≡ false ∷ true ∷ true ∷ []
due = refl

second_due : map (is_due (2 ∷ 5 ∷ []) 1) (4 ∷ 5 ∷ []) ≡ false ∷ true ∷ []
second_due = refl

none_left : is_due (2 ∷ 5 ∷ []) 2 50000 ≡ false
none_left = refl

-- the first line that begins as a reset line does, here of no form
first_line : first_reset 1 (read_lines (codes "cycles 4" ++ 10 ∷ 128 ∷ 10 ∷ codes "reset take 1" ++ 10 ∷ codes "reset at")) ≡ Some 4
unfolding file_lines is_bad words_between
first_line = refl
