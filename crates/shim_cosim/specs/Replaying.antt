-- A wrapped design that runs as a shell behind its replayers.
use Rattle.std.specs.Prelude.{◌≡◌, ℕ, ◌^◌, ◌<◌, List, ◌++◌, Option, Some, take, length}
use Rattle.net_sim.specs.vidi_bits.Number.{has}
use Rattle.vlog_tree.specs.Tree.{ModuleOf, FileOf}
use Rattle.net_design.specs.declared.design.Design.{Design}
use Rattle.net_design.specs.declared.values.Values.{Values}
use Rattle.net_design.specs.Pins.{outputs}
use Rattle.net_design.specs.Settled.{IsSettled}
use Rattle.shim_step.specs.vlog_driver.Names.{Full, State}
use Rattle.vlog_design.specs.flat_parts.Meaning.{state_of}
use Rattle.replay_run.specs.trace_model.declared.row.Row.{Row}
use Rattle.replay_run.specs.trace_model.Row.{row_before, flies_after}
use Rattle.replay_run.specs.chan_map.declared.pins.Map.{Map}
use Rattle.replay_run.specs.chan_replayer.declared.feed.Feed.{Feed}
use Rattle.replay_run.specs.chan_replayer.Feed.{IsFeedOver}
use Rattle.shim_gen.specs.shim_trees.ReplayTop.{replay_name}
use Rattle.shim_step.specs.Wrapped.{Counts}
use Rattle.shim_step.specs.Recording.{own_state}
use Rattle.shim_cosim.specs.Top.{IsRound}
use Rattle.shim_cosim.specs.Held.{AreHeldPins}
use Rattle.shim_cosim.specs.Rewrapped.{inputs_count, feed_inputs, replay_row, flight_of}

-- The flat design of a wrapped file with the top that replays is in a state, of at most 128 bits a word, in which the design d inside it is
-- in state s, and the replayers have the completions of these rows. Kept beside are the channels in flight after them, and how many they are.
pub record IsReplaying (whole : Design) (state : Values) (a : Map) (first : ℕ) (pins resets : List ℕ) (flight cycles : ℕ) (d : Design)
    (s : Values) (rows : List Row) : Type 0 where
  pub file : FileOf ℕ
  pub tree : ModuleOf ℕ
  pub round : IsRound replay_name whole file a tree d
  pub held : AreHeldPins a tree.ports (inputs_count a.channels) first pins resets
  pub full : State
  pub narrow : (name : Full) (k : ℕ) → full.words name k < 2 ^ 128
  pub state_is : state_of whole full ≡ state
  pub own : own_state d full ≡ s
  pub counts : Counts a rows full
  pub flies : (c : ℕ) → has flight c ≡ flies_after (row_before rows (length rows)) c
  pub many : length rows ≡ cycles

-- the design is settled as v for a feed, the row is what stands on its outputs, and `next` is in flight after it
pub record IsReplayed (whole : Design) (state : Values) (inputs : List ℕ) (v : Values) (a : Map) (first : ℕ) (pins : List ℕ) (flight : ℕ)
    (next : Option ℕ) (row : Row) : Type 0 where
  pub feed : Feed
  pub over : IsFeedOver a.channels feed
  pub entered : inputs ≡ take first pins ++ feed_inputs a.channels feed
  pub settled : IsSettled whole state inputs v
  pub shows : row ≡ replay_row a.channels row.fresh flight feed (outputs whole v)
  pub after : next ≡ Some (flight_of (length a.channels) row)
