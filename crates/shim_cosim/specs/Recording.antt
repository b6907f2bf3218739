-- A wrapped design that runs as a shell.
use Rattle.std.specs.Prelude.{◌≡◌, ℕ, ◌<◌, ◌^◌, List, ◌++◌, Option, length, take}
use Rattle.vlog_tree.specs.Tree.{ModuleOf, FileOf}
use Rattle.net_design.specs.declared.design.Design.{Design}
use Rattle.net_design.specs.declared.values.Values.{Values}
use Rattle.net_design.specs.Pins.{outputs}
use Rattle.net_design.specs.Settled.{IsSettled}
use Rattle.shim_step.specs.vlog_driver.Names.{Full, State}
use Rattle.vlog_design.specs.flat_parts.Meaning.{state_of}
use Rattle.replay_run.specs.trace_model.declared.row.Row.{Row}
use Rattle.replay_run.specs.trace_model.declared.row.Offers.{Offers}
use Rattle.replay_run.specs.trace_model.Row.{AreOffers}
use Rattle.replay_run.specs.chan_map.declared.pins.Map.{Map}
use Rattle.replay_run.specs.run_model.Offers.{AreZeroWhileDown}
use Rattle.replay_run.specs.chan_monitor.Entering.{offered}
use Rattle.shim_gen.specs.shim_trees.RecordTop.{record_name}
use Rattle.shim_step.specs.Wrapped.{Flies}
use Rattle.shim_step.specs.Recording.{own_state}
use Rattle.shim_cosim.specs.Top.{IsRound}
use Rattle.shim_cosim.specs.Held.{AreHeldPins}
use Rattle.shim_cosim.specs.Recorded.{inputs_count, row_inputs, IsMadeRow}

-- The flat design of a wrapped file with the top that records is in a state, of at most 128 bits a word, in which the design d inside it is
-- in state s, and the monitors have the flight after the row before.
pub record IsRecording (whole : Design) (state : Values) (a : Map) (first : ℕ) (pins resets : List ℕ) (d : Design) (s : Values)
    (before : Option Row) : Type 0 where
  pub file : FileOf ℕ
  pub tree : ModuleOf ℕ
  pub round : IsRound record_name whole file a tree d
  pub held : AreHeldPins a tree.ports (inputs_count a.channels) first pins resets
  pub full : State
  pub narrow : (name : Full) (k : ℕ) → full.words name k < 2 ^ 128
  pub state_is : state_of whole full ≡ state
  pub own : own_state d full ≡ s
  pub flight : Flies a before full

-- the design is settled as v with some offers and gates at its inputs, and the row is theirs
pub record IsRecorded (whole : Design) (state : Values) (inputs : List ℕ) (v : Values) (a : Map) (first : ℕ) (pins : List ℕ) (row : Row)
    : Type 0 where
  pub offers : Offers
  pub gates : ℕ
  pub are : AreOffers a.channels offers
  pub zeros : AreZeroWhileDown a.channels offers
  pub below : gates < 2 ^ length a.channels
  pub entered : inputs ≡ take first pins ++ row_inputs a.channels (offered gates offers)
  pub settled : IsSettled whole state inputs v
  pub made : IsMadeRow a.channels offers gates (outputs whole v) row
