-- The definitions on worked plans and texts, found by hand.
use Rattle.std.specs.Prelude.{◌≡◌, ℕ, List, [], ◌∷◌, ◌++◌, map, codes, Option, Some, None, refl}
use Rattle.run_model.proofs.trace_model_lemmas.Examples.{pass}
use Rattle.run_model.specs.chan_map.vidi_lines.Lines.{file_lines, is_bad, words_between}
use Rattle.env_script.specs.declared.error.ScriptError.{ScriptError}
use Rattle.env_script.specs.declared.error.ScriptError.TheVariants as E
use Rattle.env_script.specs.declared.stalls.Drain.{Drain}
use Rattle.env_script.specs.Forms.{keyword_of}
use Rattle.env_script.specs.Plan.{allowance_at}
use Rattle.env_script.specs.Reasons.{read_lines, script_faults}
use Rattle.env_script.specs.Stalls.{plan_faults}
use Rattle.run_model.specs.vidi_bits.Findings.{first}

-- `drain 3 2`, `drain all 1`
abbrev plan : List Drain
plan = record { allowance = Some 3; cycles = 2 } ∷ record { allowance = None; cycles = 1 } ∷ []

begins_anew : map (allowance_at plan) (0 ∷ 1 ∷ 2 ∷ 3 ∷ 4 ∷ 5 ∷ 6 ∷ 7 ∷ [])
    ≡ Some 3 ∷ Some 3 ∷ None ∷ Some 3 ∷ Some 3 ∷ None ∷ Some 3 ∷ Some 3 ∷ []
begins_anew = refl

everything : allowance_at [] 5 ≡ None
everything = refl

abbrev fault : List ℕ → Option ScriptError
fault bytes = first (script_faults pass (read_lines bytes))

lawful : fault (codes "cycles 4" ++ 10 ∷ codes "a send 255" ++ 10 ∷ codes "b take all") ≡ None
unfolding file_lines is_bad words_between keyword_of
lawful = refl

no_channel : fault (codes "cycles 4" ++ 10 ∷ codes "c send 1") ≡ Some (E.Channel 2)
unfolding file_lines is_bad words_between keyword_of
no_channel = refl

too_large : fault (codes "cycles 4" ++ 10 ∷ codes "a send 256") ≡ Some (E.Number 2)
unfolding file_lines is_bad words_between keyword_of
too_large = refl

no_form : fault (codes "cycles 4" ++ 10 ∷ codes "a go") ≡ Some (E.Line 2)
unfolding file_lines is_bad words_between keyword_of
no_form = refl

no_cycles : fault (codes "cycles 0") ≡ Some (E.Number 1)
unfolding file_lines is_bad words_between keyword_of
no_cycles = refl

-- S2 comes before S3, and S1 before both; the lowest of the lines that are bad or of no form
channel_first : fault (codes "cycles 0" ++ 10 ∷ codes "c wait 1") ≡ Some (E.Channel 2)
unfolding file_lines is_bad words_between keyword_of
channel_first = refl

form_first : fault (codes "cycles 0" ++ 10 ∷ codes "c wait 1" ++ 10 ∷ codes "a go" ++ 10 ∷ 128 ∷ []) ≡ Some (E.Line 3)
unfolding file_lines is_bad words_between keyword_of
form_first = refl

missing : fault (10 ∷ 10 ∷ []) ≡ Some (E.Line 3)
unfolding file_lines is_bad words_between keyword_of
missing = refl

second_cycles : fault (codes "cycles 4" ++ 10 ∷ codes "cycles 4") ≡ Some (E.Line 2)
unfolding file_lines is_bad words_between keyword_of
second_cycles = refl

no_number : fault (codes "cycles 4" ++ 10 ∷ codes "a send") ≡ Some (E.Number 2)
unfolding file_lines is_bad words_between keyword_of
no_number = refl

no_capacity : plan_faults (read_lines (codes "drain 1 1")) ≡ 1 ∷ []
unfolding file_lines is_bad words_between
no_capacity = refl

no_cycle : plan_faults (read_lines (codes "capacity 14" ++ 10 ∷ codes "drain 1 0")) ≡ 2 ∷ []
unfolding file_lines is_bad words_between
no_cycle = refl
