-- What follows for runs and replays in stretches from what follows for runs and replays.
use Rattle.std.specs.Prelude.{◌≡◌, ℕ, suc, ◌<◌, ◌≤◌, ◌⊎◌, Bool, List, [], Option, Some, All, length, slice_get}
use Rattle.run_model.specs.trace_model.declared.channel.Channel.{Channel}
use Rattle.run_model.specs.trace_model.declared.event.Kind.TheVariants.{End}
use Rattle.run_model.specs.trace_model.declared.packet.Packet.{Packet}
use Rattle.run_model.specs.trace_model.declared.row.Offers.{Offers}
use Rattle.run_model.specs.trace_model.declared.row.Row.{Row}
use Rattle.run_model.specs.trace_model.Epoch.{resets}
use Rattle.run_model.specs.trace_model.Packet.{count}
use Rattle.run_model.specs.trace_model.Recording.{packets_of}
use Rattle.run_model.specs.trace_model.Row.{IsOver}
use Rattle.run_model.specs.trace_model.Trace.{IsWellFormed}
use Rattle.net_design.specs.declared.design.Design.{Design}
use Rattle.run_model.specs.chan_map.declared.pins.Map.{Map}
use Rattle.run_model.specs.Held.{awaits}
use Rattle.run_model.specs.Laws.{AreInOrder, ContentsFit, ContentsStay, GatesFit, GatesOf, GatesStay, HasWellFormedTrace, IsFirstOpen, IsFree, IsReady}
use Rattle.run_model.specs.Laws.{OffersFit, OffersStay}
use Rattle.run_model.specs.Played.{AreStable}
use Rattle.run_model.specs.Replay.{HasEnded, done}
use Rattle.run_model.specs.Stretches.{AreReplayed, AreRun, AreTheRun, IsLastEpoch, offers_behind, row_count}

-- ---- exactly one list of n rows
-- exactly one list of stretches that have n rows is as said
abbrev pub OneOfRows : (List (List Row) → Type 0) → ℕ → Type 0
OneOfRows Are n = ∥ ((stretches : List (List Row)) × (row_count stretches ≡ n) × Are stretches) ∥₁
    × ((a b : List (List Row)) → row_count a ≡ n → row_count b ≡ n → Are a → Are b → a ≡ b)

-- it holds behind all stretches of rows over the channels
abbrev pub Behind : List Channel → (List (List Row) → Type 0) → Type 0
Behind channels Holds = (past : List (List Row)) → All (All (IsOver channels)) past → Holds past

-- the gates of each stretch are those of a plan, which knows the stretches before it
abbrev pub GatesBehind : (List (List Row) → List Row → ℕ) → List (List Row) → List Row → ℕ → Type 0
GatesBehind plan past = GatesOf (plan past)

abbrev pub OneRunInStretches : Type 0
OneRunInStretches = (d : Design) (m : Map) → IsReady d m
    → (offers : List Row → Offers) → Behind m.channels (λ past. OffersFit m.channels (offers_behind offers past))
    → (plan : List (List Row) → List Row → ℕ) → Behind m.channels (λ past. GatesFit m.channels (plan past))
    → (turns : List Row → Bool) (n : ℕ) → OneOfRows (AreRun d m offers (GatesBehind plan) turns) n

-- exactly one list of stretches, of which one is the last, ends as said, and in exactly one way
abbrev pub OneEnding : (List (List Row) → List Row → Option ℕ → Type 0) → Type 0
OneEnding Ends = ∥ ((past : List (List Row)) × (here : List Row) × (stop : Option ℕ) × Ends past here stop) ∥₁
    × ((past before : List (List Row)) (here there : List Row) (i j : Option ℕ) → Ends past here i → Ends before there j
    → (past ≡ before) × (here ≡ there) × (i ≡ j))

abbrev pub OneEndingInStretches : Type 0
OneEndingInStretches = (d : Design) (m : Map) → IsReady d m
    → (offers : List Row → Offers) → Behind m.channels (λ past. OffersFit m.channels (offers_behind offers past))
    → (plan : List (List Row) → List Row → ℕ) → Behind m.channels (λ past. GatesFit m.channels (plan past))
    → (turns : List Row → Bool) (n : ℕ) → OneEnding (AreTheRun d m offers (GatesBehind plan) turns n)

abbrev pub OneReplayInStretches : Type 0
OneReplayInStretches = (d : Design) (m : Map) → IsReady d m
    → (epochs : List (List Packet)) → 0 < length epochs → All (ContentsFit m.channels) epochs
    → (n : ℕ) → OneOfRows (AreReplayed d m epochs) n

-- ---- contents stay, in each stretch that is stable
abbrev pub KeepContents : List Channel → List (List Row) → Type 0
KeepContents channels stretches = (k : ℕ) (rows : List Row) → slice_get stretches k ≡ Some rows → AreStable channels rows
    → ContentsStay channels rows × HasWellFormedTrace channels rows

abbrev pub RunStretchesKeepContents : Type 0
RunStretchesKeepContents = (d : Design) (m : Map)
    → (offers : List Row → Offers) → Behind m.channels (λ past. OffersStay m.channels (offers_behind offers past))
    → (plan : List (List Row) → List Row → ℕ) → Behind m.channels (λ past. GatesStay m.channels (plan past))
    → (turns : List Row → Bool) (stretches : List (List Row)) → AreRun d m offers (GatesBehind plan) turns stretches
    → KeepContents m.channels stretches

abbrev pub ReplayStretchesKeepContents : Type 0
ReplayStretchesKeepContents = (d : Design) (m : Map) (epochs : List (List Packet)) (stretches : List (List Row))
    → AreReplayed d m epochs stretches → KeepContents m.channels stretches

-- ---- order in the output
-- there are at most as many stretches as epochs, and in each that is stable what is recorded is in the order of its epoch
abbrev pub OrderInStretches : Type 0
OrderInStretches = (d : Design) (m : Map) (epochs : List (List Packet)) (stretches : List (List Row)) → AreReplayed d m epochs stretches
    → (length stretches ≤ length epochs)
    × ((k : ℕ) (rows : List Row) → slice_get stretches k ≡ Some rows → AreStable m.channels rows
    → (packets : List Packet) × (slice_get epochs k ≡ Some packets) × AreInOrder m.channels packets (packets_of m.channels rows))

-- ---- no circle
-- the reset behind epoch e is waited for and not held back: there is a next epoch, all of this one is shown, and the completions of this
-- one, which are the reset's clock, are covered
pub record IsResetFree (channels : List Channel) (epochs : List (List Packet)) (e : ℕ) (packets : List Packet) (rows : List Row)
    : Type 0 where
  pub next : suc e < length epochs
  pub shown : HasEnded (length channels) packets rows
  pub free : awaits channels (done rows) (λ c. count End c packets) ≡ []

-- where the last row's epoch isn't the last that has ended: the first packet of it that isn't shown whole is free, and where there is none,
-- the reset is
abbrev pub NoCircleInStretches : Type 0
NoCircleInStretches = (d : Design) (m : Map) (epochs : List (List Packet)) (stretches : List (List Row)) → AreReplayed d m epochs stretches
    → (e : ℕ) (packets : List Packet) (rows : List Row) → IsLastEpoch epochs stretches e packets rows
    → IsWellFormed (record { channels = m.channels; packets = packets }) → resets packets ≡ 0 → AreStable m.channels rows
    → ¬ ((suc e ≡ length epochs) × HasEnded (length m.channels) packets rows)
    → (((p : ℕ) × IsFirstOpen (length m.channels) packets rows p) ⊎ IsResetFree m.channels epochs e packets rows)
    × ((p : ℕ) → IsFirstOpen (length m.channels) packets rows p → IsFree m.channels packets rows p)
