-- Runs under what is given in each cycle.
use Rattle.std.specs.Prelude.{◌≡◌, ℕ, ◌<◌, List, All, None, Some, length, map}
use Rattle.run_reference.specs.trace_model.declared.channel.Channel.{Channel}
use Rattle.run_reference.specs.trace_model.declared.row.Offers.{Offers}
use Rattle.run_reference.specs.trace_model.declared.row.Row.{Row}
use Rattle.net_design.specs.declared.design.Design.{Design}
use Rattle.run_reference.specs.chan_map.declared.pins.Map.{Map}
use Rattle.run_reference.specs.run_model.Laws.{GatesOf}
use Rattle.run_reference.specs.run_model.Run.{IsRunRow, IsTheRun}
use Rattle.run_reference.specs.Given.{offers_by, gates_by}
use Rattle.run_stage.specs.declared.ending.Ending.{Ending}
use Rattle.run_stage.specs.declared.ending.Ending.TheVariants.{Whole, Done, Unstable}
use Rattle.run_stage.specs.declared.given.Gated.{Gated}
use Rattle.run_stage.specs.Given.{FitsGates}

-- the offers and the gates that are given after these rows
abbrev pub offers_in : List Gated → List Row → Offers
offers_in given = offers_by (map (λ (g : Gated). g.offers) given)

abbrev pub gates_in : List Gated → List Row → ℕ
gates_in given = gates_by (map (λ (g : Gated). g.gates) given)

-- where something is given after the rows before, it is a run's row under that
abbrev pub IsTurn : List Channel → List Gated → List Row → Row → Type 0
IsTurn channels given before row =
    length before < length given → IsRunRow channels (offers_in given) (GatesOf (gates_in given)) before row

-- the run of all cycles that are given, by its end
abbrev pub EndsAs : Design → Map → List Gated → List Row → Ending → Type 0
EndsAs d m given rows Whole = IsTheRun d m (offers_in given) (GatesOf (gates_in given)) (length given) rows None
EndsAs d m given rows (Done cycles) = ⊥
EndsAs d m given rows (Unstable channel cycle) =
    IsTheRun d m (offers_in given) (GatesOf (gates_in given)) (length given) rows (Some channel) × (length rows ≡ cycle)

-- a player has its map and what is given, which fits and is something, and has kept these rows
pub record IsAt (m now_m : Map) (first now : List Gated) (kept rows : List Row) : Type 0 where
  pub map_is : now_m ≡ m
  pub given_is : now ≡ first
  pub some : 0 < length first
  pub fits : All (FitsGates m.channels) first
  pub kept_are : kept ≡ rows
