-- What the lists of *End of replay* are made of.
use Rattle.std.specs.Prelude.{◌≡◌, ℕ, ◌+◌, ◌<◌, ◌≤◌, [], List, Some, if◌then◌else◌, length, slice_get, slice_index, vec_len, vec_capacity}
use Rattle.std.specs.Global.{Vec}
use Rattle.trace_code.specs.trace_model.declared.event.Kind.TheVariants.{Start}
use Rattle.trace_code.specs.trace_model.declared.row.Row.{Row}
use Rattle.trace_code.specs.trace_model.Recording.{shown}
use Rattle.trace_code.specs.trace_model.Row.{is_in_flight}
use Rattle.run_stage.specs.run_model.Held.{flies}
use Rattle.run_stage.specs.run_model.Replay.{done}
use Rattle.run_stage.specs.run_model.declared.held.Await.{Await}
use Rattle.replay_run.specs.declared.lists.Lists.{Lists}

-- what is kept of rows over n channels: how many transactions of each have completed, and a row with what is in flight after them
pub record IsKept (n : ℕ) (rows : List Row) (have : List ℕ) (last : Row) : Type 0 where
  pub long : length have ≡ n
  pub counts : (c : ℕ) → c < n → slice_index have c ≡ done rows c
  pub flight : (c : ℕ) → c < n → is_in_flight last c ≡ flies rows c
  pub starts : (c : ℕ) → c < n → shown Start c rows ≡ done rows c + (if flies rows c then 1 else 0)

-- at least so many empty lists, each with room for n
pub record AreSpare (n many : ℕ) (spare : List (Vec Await)) : Type 0 where
  pub enough : many ≤ length spare
  pub each : (i : ℕ) (list : Vec Await) → slice_get spare i ≡ Some list → (list.items ≡ []) × (vec_len list + n ≤ vec_capacity list)

-- room for the lists of n channels with the reset, and for what each of these events awaits; they are empty
pub record HasRoom (n : ℕ) (lists : Lists) : Type 0 where
  pub no_held : lists.held.items ≡ []
  pub held : vec_len lists.held + (n + 1) ≤ vec_capacity lists.held
  pub no_waits : lists.waits.items ≡ []
  pub waits : vec_len lists.waits + (n + 1) ≤ vec_capacity lists.waits
  pub awaits : AreSpare n (n + 1) lists.awaits.items
