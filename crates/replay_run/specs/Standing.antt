-- Where a replay stands between two cycles, and how it ends.
use Rattle.std.specs.Prelude.{◌≡◌, ℕ, ◌-◌, ◌<◌, ◌≤◌, ◌↔◌, not, Bool, true, List, Some, length, slice_get, slice_index}
use Rattle.trace_code.specs.vidi_bits.Number.{has}
use Rattle.trace_code.specs.trace_model.declared.channel.Channel.{Channel}
use Rattle.trace_code.specs.trace_model.declared.channel.Dir.TheVariants.{Inward}
use Rattle.trace_code.specs.trace_model.declared.packet.Packet.{Packet}
use Rattle.trace_code.specs.trace_model.declared.packet.TheConstants.{MOST_CYCLES}
use Rattle.trace_code.specs.trace_model.declared.row.Row.{Row}
use Rattle.trace_code.specs.trace_model.declared.trace.Trace.{Trace}
use Rattle.trace_code.specs.trace_model.Channel.{IsTable}
use Rattle.trace_code.specs.trace_model.Epoch.{epoch, resets}
use Rattle.trace_code.specs.Encoding.{Encodes}
use Rattle.net_design.specs.declared.design.Design.{Design}
use Rattle.run_stage.specs.chan_map.declared.pins.Map.{Map}
use Rattle.run_stage.specs.chan_monitor.vidi_bits.Findings.{is_nil}
use Rattle.run_stage.specs.chan_replayer.Feed.{IsFeed, IsFeedOver}
use Rattle.run_stage.specs.run_model.Replay.{done, IsEpochRow}
use Rattle.run_stage.specs.run_model.Stretches.{IsDone}
use Rattle.run_stage.specs.Stretching.{all_rows}
use Rattle.run_stage.specs.declared.ending.Ending.{Ending}
use Rattle.run_stage.specs.declared.ending.Ending.TheVariants.{Done, Unstable, Whole}
use Rattle.replay_run.specs.declared.feeder.Feeder.{Feeder}
use Rattle.replay_run.specs.Behind.{AreBehind}
use Rattle.replay_run.specs.Ended.{AreEndedReplay, AreShortReplay, AreUnstableReplay, HasEndedIn}
use Rattle.replay_run.specs.Output.{HasRoomFor, IsWritten}

-- what is kept of these stretches and of the rows since, with room for n rows more
pub record AreKept (channels : List Channel) (n : ℕ) (past : List (List Row)) (here : List Row) (feeder : Feeder) : Type 0 where
  pub feed : IsFeedOver channels feeder.feed
  pub long : length feeder.have ≡ length channels
  pub counts : (c : ℕ) → c < length channels → slice_index feeder.have c ≡ done here c
  pub inward : (c : ℕ) (x : Channel) → slice_get channels c ≡ Some x → (has feeder.inward c ≡ true) ↔ (x.dir ≡ Inward)
  pub written : IsWritten channels (all_rows past here) feeder.output
  pub room : HasRoomFor channels n feeder.output

-- behind these stretches and these rows since it feeds the next events of this trace
pub record IsAt (t : Trace) (past : List (List Row)) (here : List Row) (feeder : Feeder) : Type 0 where
  pub same : t.channels ≡ feeder.map.now.channels
  pub epoch_is : feeder.cursors.epoch ≡ length past
  pub behind : AreBehind t (done here) feeder.cursors
  pub fed : IsFeed feeder.map.now.channels (epoch (length past) t.packets) (done here) feeder.feed

-- it began as the first one, whose trace has an encoding, and is behind these stretches and these rows since
pub record StandsBehind (first feeder : Feeder) (past : List (List Row)) (here : List Row) : Type 0 where
  pub map : feeder.map.now ≡ first.map.now
  pub most : feeder.cycles ≡ first.cycles
  pub few : first.cycles ≤ MOST_CYCLES
  pub within : length (all_rows past here) ≤ first.cycles
  pub table : IsTable first.map.now.channels
  pub kept : AreKept first.map.now.channels (first.cycles - length (all_rows past here)) past here feeder
  pub trace : Trace
  pub encodes : Encodes trace first.bytes.now
  pub at : IsAt trace past here feeder

-- ---- the replay of a trace, stretch by stretch: that behind so many stretches is of the epoch with this number
abbrev pub epoch_rule : List Channel → List Packet → List (List Row) → List Row → Row → Type 0
epoch_rule channels packets past = IsEpochRow (not (is_nil past)) channels (epoch (length past) packets)

-- a reset comes: there is a next epoch, and this one is done
abbrev pub TurnsBehind : List Channel → List Packet → List (List Row) → List Row → Type 0
TurnsBehind channels packets past here = (length past < resets packets) × IsDone channels (epoch (length past) packets) here

-- the same of the trace whose encoding a player has
abbrev pub IsNextRow : Feeder → List (List Row) → List Row → Row → Type 0
IsNextRow first past here row = (t : Trace) → Encodes t first.bytes.now → epoch_rule first.map.now.channels t.packets past here row

abbrev pub IsTurn : Feeder → List (List Row) → List Row → Type 0
IsTurn first past here = (t : Trace) → Encodes t first.bytes.now → TurnsBehind first.map.now.channels t.packets past here

abbrev pub SaysEnded : Feeder → List (List Row) → List Row → Bool → Type 0
SaysEnded first past here ended = (t : Trace) → Encodes t first.bytes.now
    → (ended ≡ true) ↔ HasEndedIn (length first.map.now.channels) t.packets past here

-- the replay of at most n cycles is these stretches, and ends so
abbrev pub PlaysTo : Design → Map → List Packet → ℕ → List (List Row) → List Row → Ending → Type 0
PlaysTo d m packets n past here (Done cycles) = AreEndedReplay d m packets n past here × (cycles ≡ length (all_rows past here))
PlaysTo d m packets n past here Whole = AreShortReplay d m packets n past here
PlaysTo d m packets n past here (Unstable channel cycle) = AreUnstableReplay d m packets n past here channel
    × (cycle ≡ length (all_rows past here))
