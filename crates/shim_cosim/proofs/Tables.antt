-- Numbers that are found in a table.
use Rattle.std.proofs.Common.{◌≡◌, ℕ, Bool, List, [], ◌∷◌, ◌++◌}
use Rattle.std.proofs.Common.{refl, ap, ◌∙◌}
use Rattle.std.specs.List.{flat_map}
use Rattle.std.specs.Option.{option_to_list}
use Rattle.vlog_tree.specs.Tree.{PortOf}
use Rattle.vlog_design.specs.vlog_size.Table.{Named}
use Rattle.replay_run.specs.chan_map.declared.pins.Map.{Map}
use Rattle.shim_gen.specs.Tables.{with_entries}
use Rattle.shim_gen.proofs.Tables.{value_in}
use Rattle.shim_cosim.specs.Held.{held_numbers, held_number, held_inputs}

numbers_same : (ns : List (Named ℕ)) (ports : List (PortOf ℕ))
    → flat_map (held_number (with_entries [] ns)) ports ≡ flat_map (held_number ns) ports
numbers_same ns [] = refl
numbers_same ns (p ∷ ports) =
    ap (λ o. option_to_list o ++ flat_map (held_number (with_entries [] ns)) ports) (value_in ns p.id.name)
    ∙ ap (λ more. held_number ns p ++ more) (numbers_same ns ports)

-- the numbers of the reset and the ties may be found in a table of these
pub held_by_table : (a : Map) (resets : Bool) (ports : List (PortOf ℕ))
    → flat_map (held_number (with_entries [] (held_numbers a resets))) ports ≡ flat_map (held_number (held_numbers a resets)) ports
held_by_table a resets ports = numbers_same (held_numbers a resets) ports

-- the inputs that are held, of a table of their numbers behind the clock
pub held_are : {pins start : List ℕ} {numbers : List (Named ℕ)} {ports named : List (PortOf ℕ)} (a : Map) (resets : Bool)
    → pins ≡ start ++ flat_map (held_number numbers) ports → start ≡ 0 ∷ [] → numbers ≡ with_entries [] (held_numbers a resets)
    → ports ≡ named → pins ≡ held_inputs a resets named
held_are {pins} {start} {numbers} {ports} {named} a resets made clock table same =
    made
    ∙ ap (λ (xs : List ℕ). xs ++ flat_map (held_number numbers) ports) clock
    ∙ ap (λ (es : List (Named ℕ)). 0 ∷ flat_map (held_number es) ports) table
    ∙ ap (λ (xs : List ℕ). 0 ∷ xs) (held_by_table a resets ports)
    ∙ ap (λ (ps : List (PortOf ℕ)). held_inputs a resets ps) same
