-- What follows for maps and runs of designs that are alike, and that a run ends in one way.
use Rattle.std.specs.Prelude.{◌≡◌, ℕ, ◌↔◌, List, Option, Result}
use Rattle.chan_map.specs.trace_model.declared.row.Offers.{Offers}
use Rattle.chan_map.specs.trace_model.declared.row.Row.{Row}
use Rattle.net_design.specs.declared.design.Design.{Design}
use Rattle.net_design.specs.Lawful.{IsLawful}
use Rattle.chan_map.specs.declared.error.MapError.{MapError}
use Rattle.chan_map.specs.declared.text.MapText.{MapText}
use Rattle.chan_map.specs.declared.pins.Map.{Map}
use Rattle.chan_map.specs.Bound.{BindsMap}
use Rattle.run_model.specs.Laws.{IsReady, GatesOf}
use Rattle.run_model.specs.Played.{IsDriven}
use Rattle.run_model.specs.Run.{IsTheRun}
use Rattle.run_model.specs.Alike.{AreAlike}

-- the lines of a map are bound to both with the same answer
abbrev pub MapsAlike : Type 0
MapsAlike = (text : MapText) (d e : Design) → AreAlike d e → (answer : Result Map MapError) → BindsMap text d answer ↔ BindsMap text e answer

-- both show the same rows one after the other; so they have the same runs and the same replays
abbrev pub DrivenAlike : Type 0
DrivenAlike = (d e : Design) → IsLawful d → AreAlike d e → (m : Map) (rows : List Row) → IsDriven d m rows ↔ IsDriven e m rows

-- both have the same run of n cycles, under any plan of gates, and it ends before the same row
abbrev pub RunsAlike : Type 0
RunsAlike = (d e : Design) → IsLawful d → AreAlike d e → (m : Map) (offers : List Row → Offers) (plan : List Row → ℕ) (n : ℕ)
    (rows : List Row) (stop : Option ℕ) → IsTheRun d m offers (GatesOf plan) n rows stop ↔ IsTheRun e m offers (GatesOf plan) n rows stop

-- a design with a map has one run of n cycles, and it ends in one way
abbrev pub OneEnd : Type 0
OneEnd = (d : Design) (m : Map) → IsReady d m → (offers : List Row → Offers) (plan : List Row → ℕ) (n : ℕ) (a b : List Row)
    (i j : Option ℕ) → IsTheRun d m offers (GatesOf plan) n a i → IsTheRun d m offers (GatesOf plan) n b j → (a ≡ b) × (i ≡ j)
