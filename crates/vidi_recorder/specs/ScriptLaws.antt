-- That a script's run is one, what its recording holds, and plans under which everything drains.
use Rattle.std.specs.Prelude.{◌≡◌, ℕ, ◌≤◌, not, List, Option, None, Some, slice_get}
use Rattle.trace_code.specs.trace_model.declared.channel.Channel.{Channel}
use Rattle.trace_code.specs.trace_model.declared.row.Row.{Row}
use Rattle.trace_code.specs.trace_model.Channel.{IsTable}
use Rattle.net_design.specs.declared.design.Design.{Design}
use Rattle.env_script.specs.chan_map.declared.pins.Map.{Map}
use Rattle.env_script.specs.chan_map.vidi_bits.Findings.{is_nil}
use Rattle.env_script.specs.run_model.Laws.{IsReady, OneOfLength, OneThatEnds}
use Rattle.room_ledger.specs.Laws.{EverythingDrains}
use Rattle.room_ledger.specs.Reservation.{least}
use Rattle.env_script.specs.declared.script.Script.{Script}
use Rattle.env_script.specs.declared.stalls.Drain.{Drain}
use Rattle.env_script.specs.declared.stalls.Stalls.{Stalls}
use Rattle.env_script.specs.Fits.{FitsChannels}
use Rattle.env_script.specs.ScriptOffer.{script_offer}
use Rattle.vidi_recorder.specs.Course.{Course, course, plan_of, sizes_of, IsRunOf, IsTheRunOf}
use Rattle.vidi_recorder.specs.Laws.{IsKept}

-- the run of a design with its map and a script, with the script's resets, behind a store that drains by a plan
abbrev pub script_course : Design → Map → Script → Stalls → Course
script_course d m script stalls = course d m (script_offer script) stalls script.resets script.cycles

-- it exists and is one: there is exactly one list of each length with *IsRun*, and exactly one run
abbrev pub OneScriptRun : Type 0
OneScriptRun = (d : Design) (m : Map) (script : Script) (stalls : Stalls) → IsReady d m → FitsChannels m.channels script
    → ((n : ℕ) → OneOfLength (IsRunOf (script_course d m script stalls)) n) × OneThatEnds (IsTheRunOf (script_course d m script stalls))

abbrev pub ScriptRunIsKept : Type 0
ScriptRunIsKept = (d : Design) (m : Map) (script : Script) (stalls : Stalls) (rows : List Row) (stop : Option ℕ)
    → IsTable m.channels → FitsChannels m.channels script → IsTheRunOf (script_course d m script stalls) rows stop
    → IsKept m.channels rows

-- so many bytes may drain, or all, of which there are at most so many
abbrev pub LetsAllOut : ℕ → Option ℕ → Type 0
LetsAllOut capacity None = Unit {0}
LetsAllOut capacity (Some allowance) = capacity ≤ allowance

-- each line of the plan lets out all that the store can hold
abbrev pub DrainsAll : Stalls → Type 0
DrainsAll stalls = (k : ℕ) (line : Drain) → slice_get stalls.drains k ≡ Some line → LetsAllOut stalls.capacity line.allowance

-- so everything drains after each row
abbrev pub FullPlanDrains : Type 0
FullPlanDrains = (channels : List Channel) (stalls : Stalls) (times : List ℕ) (rows : List Row) → IsTable channels
    → least (sizes_of channels) (not (is_nil times)) ≤ stalls.capacity → DrainsAll stalls
    → EverythingDrains (sizes_of channels) (plan_of stalls times) rows
