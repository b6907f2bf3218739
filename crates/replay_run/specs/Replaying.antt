-- What a replay answers: *the replay*, how it ends, and the encoding of its trace.
use Rattle.std.specs.Prelude.{◌≡◌, ℕ, ◌≤◌, ◌⊎◌, nat_lt, List, Some, All, Contains, length, slice_get, take}
use Rattle.trace_code.specs.trace_model.declared.channel.Channel.{Channel}
use Rattle.trace_code.specs.trace_model.declared.channel.Dir.TheVariants.{Inward}
use Rattle.trace_code.specs.trace_model.declared.event.Event.{Event}
use Rattle.trace_code.specs.trace_model.declared.packet.Packet.{Packet}
use Rattle.trace_code.specs.trace_model.declared.row.Row.{Row}
use Rattle.trace_code.specs.trace_model.Epoch.{epoch, resets}
use Rattle.trace_code.specs.trace_model.Recording.{packets_of, recorded, trace_of}
use Rattle.trace_code.specs.Encoding.{Encodes}
use Rattle.net_design.specs.declared.design.Design.{Design}
use Rattle.net_design.specs.declared.values.Values.{Values}
use Rattle.run_stage.specs.chan_map.declared.pins.Map.{Map}
use Rattle.run_stage.specs.run_model.declared.held.Held.{Held}
use Rattle.run_stage.specs.run_model.Held.{held_of, reset_event, waits_of}
use Rattle.run_stage.specs.run_model.Laws.{AreInOrder, ContentsStay, IsFirstOpen, IsIn}
use Rattle.run_stage.specs.run_model.Played.{IsDriven}
use Rattle.run_stage.specs.run_model.Replay.{HasEnded}
use Rattle.run_stage.specs.run_model.Stretches.{and_stretch}
use Rattle.run_stage.specs.Stretching.{all_rows}
use Rattle.replay_run.specs.declared.outcome.Replayed.{Replayed}
use Rattle.replay_run.specs.declared.outcome.ReplayOutcome.{ReplayOutcome}
use Rattle.replay_run.specs.declared.outcome.ReplayOutcome.TheVariants.{Ended, Short, Unstable}
use Rattle.replay_run.specs.Ended.{AreEndedReplay, AreShortReplay, AreUnstableReplay}
use Rattle.replay_run.specs.Epochs.{epochs}

-- what a replay holds back behind these stretches and these rows since, and what it waits for: events of the last row's epoch, and its reset
abbrev pub held_behind : List Channel → List Packet → List (List Row) → List Row → List Held
held_behind channels packets past here =
    held_of (length past) (nat_lt (length past) (resets packets)) channels (epoch (length past) packets) here

abbrev pub waits_behind : List Channel → List Packet → List (List Row) → List Row → List Event
waits_behind channels packets past here =
    waits_of (length past) (nat_lt (length past) (resets packets)) channels (epoch (length past) packets) here

-- *the replay* of at most n cycles is these stretches, and ends so, with the lists of *End of replay* where it is short
abbrev pub EndsAs : Design → Map → List Packet → ℕ → List (List Row) → List Row → ReplayOutcome → Type 0
EndsAs d m packets n past here (Ended cycles) = AreEndedReplay d m packets n past here × (cycles ≡ length (all_rows past here))
EndsAs d m packets n past here (Short helds events) = AreShortReplay d m packets n past here
    × (helds ≡ held_behind m.channels packets past here) × (events ≡ waits_behind m.channels packets past here)
EndsAs d m packets n past here (Unstable channel cycle) = AreUnstableReplay d m packets n past here channel
    × (cycle ≡ length (all_rows past here))

-- no event of packet p of an epoch is held back, and some event of it is waited for
pub record IsUnheld (packets : List Packet) (helds : List Held) (events : List Event) (p : ℕ) : Type 0 where
  pub free : All (λ (h : Held). ¬ IsIn packets p h.event) helds
  pub event : Event
  pub is_in : IsIn packets p event
  pub waiting : Contains events event

-- *no circle*: where the replay is short there is in the last row's epoch a first packet that it hasn't shown whole, of which no event is held
-- back and some event is waited for; or there is none, and the reset behind the epoch is waited for
abbrev pub GoesInNoCircle : List Channel → List Packet → List (List Row) → List Row → ReplayOutcome → Type 0
GoesInNoCircle channels packets past here (Ended cycles) = Unit {0}
GoesInNoCircle channels packets past here (Short helds events) =
    ((p : ℕ) × IsFirstOpen (length channels) (epoch (length past) packets) here p × IsUnheld (epoch (length past) packets) helds events p)
    ⊎ (HasEnded (length channels) (epoch (length past) packets) here × Contains events (reset_event (length past)))
GoesInNoCircle channels packets past here (Unstable channel cycle) = Unit {0}

-- *order in the output*: at most the resets of the trace come, and what each stretch records is in the order of its epoch
pub record AreInOrderOf (channels : List Channel) (packets : List Packet) (stretches : List (List Row)) : Type 0 where
  pub few : length stretches ≤ length (epochs packets)
  pub each : (k : ℕ) (rows : List Row) → slice_get stretches k ≡ Some rows
      → AreInOrder channels (epoch k packets) (packets_of channels rows)

-- the contents that are recorded of each inward channel, over all epochs, are a prefix of those of the trace
abbrev pub ArePrefixes : List Channel → List Packet → List Packet → Type 0
ArePrefixes channels packets out = (c : ℕ) (x : Channel) → slice_get channels c ≡ Some x → x.dir ≡ Inward
    → recorded channels out c ≡ take (length (recorded channels out c)) (recorded channels packets c)

-- what is answered, where the shell runs as said afterwards
pub record IsReplayed (d : Design) (m : Map) (packets : List Packet) (n : ℕ) (runs : Design → Values → List Row → Type 0)
    (answer : Replayed) : Type 0 where
  -- the stretches of rows before the last reset in mid-run, and the rows since
  pub past : List (List Row)
  pub here : List Row
  pub ends : EndsAs d m packets n past here answer.outcome
  pub out : Encodes (trace_of m.channels (all_rows past here)) answer.out
  -- the shell stands behind the rows since
  pub driven : IsDriven d m here
  pub stands : runs d (driven.state (length here)) here
  -- *order in the output*, *contents stay* in each stretch, and *no circle*
  pub order : AreInOrderOf m.channels packets (and_stretch past here)
  pub prefixes : ArePrefixes m.channels packets (trace_of m.channels (all_rows past here)).packets
  pub contents : All (ContentsStay m.channels) (and_stretch past here)
  pub free : GoesInNoCircle m.channels packets past here answer.outcome
