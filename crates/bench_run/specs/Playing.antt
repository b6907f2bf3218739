-- Where the player of a plain run stands between two cycles.
use Rattle.std.specs.Prelude.{◌≡◌, ℕ, ◌≤◌, List, Option, None, length}
use Rattle.std.specs.Borrow.{GName}
use Rattle.env_script.specs.trace_model.declared.channel.Channel.{Channel}
use Rattle.env_script.specs.trace_model.declared.packet.TheConstants.{MOST_CHANNELS}
use Rattle.env_script.specs.trace_model.declared.row.Row.{Row}
use Rattle.env_script.specs.trace_model.Epoch.{restarts}
use Rattle.net_design.specs.declared.design.Design.{Design}
use Rattle.net_design.specs.declared.values.Values.{Values}
use Rattle.run_stage.specs.chan_map.declared.pins.Map.{Map}
use Rattle.run_stage.specs.run_model.Played.{all_up}
use Rattle.run_stage.specs.run_model.Step.{IsFirst}
use Rattle.env_script.specs.Offer.{Offer}
use Rattle.env_script.specs.Offered.{offers_on}
use Rattle.bench_run.specs.declared.player.PlainCells.{PlainCells}

-- what stays of a player: its map, the times of its resets, the borrows of its environment and of what it holds, and the environment's plan
-- and channels, which are the map's
pub record IsSame {Plan : Type 0} (m now_m : Map) (resets now_resets : List ℕ) (old new old_cells new_cells : GName) (was is : Plan)
    (now_channels : List Channel) : Type 0 where
  pub map : now_m ≡ m
  pub resets_are : now_resets ≡ resets
  pub name : new ≡ old
  pub cells : new_cells ≡ old_cells
  pub plan : is ≡ was
  pub channels : now_channels ≡ m.channels
  pub few : length m.channels ≤ MOST_CHANNELS

-- The environment stands for the rows, which are kept and counted, and so are those of them that are fresh. What the environment offers now
-- is given, with all gates up.
pub record IsAt (channels : List Channel) (stands_for : List Row → Type 0) (current : ℕ → Offer) (cells : PlainCells) (rows : List Row)
    : Type 0 where
  pub stands : stands_for rows
  pub kept_are : cells.rows ≡ rows
  pub count : cells.cycles ≡ length rows
  pub came : cells.resets ≡ restarts rows
  pub offers : cells.given.offers ≡ offers_on channels current
  pub gates : cells.given.gates ≡ all_up channels

-- a shell was reset and has shown no row since
abbrev pub HasBegun : Design → Map → (Design → Values → Option Row → Type 0) → Type 0
HasBegun d m runs = (first : Values) × IsFirst d m first × runs d first None
