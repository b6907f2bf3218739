-- What follows from the definitions of runs and replays.
use Rattle.std.specs.Prelude.{◌≡◌, ℕ, ◌<◌, ◌^◌, Bool, true, false, List, [], ◌∷◌, ◌++◌, Option, Some, All, Contains, Ok}
use Rattle.std.specs.Prelude.{length, take, slice_get}
use Rattle.chan_map.specs.vidi_bits.Number.{has}
use Rattle.chan_map.specs.trace_model.declared.channel.Channel.{Channel}
use Rattle.chan_map.specs.trace_model.declared.channel.Dir.{Dir}
use Rattle.chan_map.specs.trace_model.declared.channel.Dir.TheVariants.{Inward, Outward}
use Rattle.chan_map.specs.trace_model.declared.event.Event.{Event}
use Rattle.chan_map.specs.trace_model.declared.event.Kind.{Kind}
use Rattle.chan_map.specs.trace_model.declared.event.Kind.TheVariants.{Start, End}
use Rattle.chan_map.specs.trace_model.declared.packet.Packet.{Packet}
use Rattle.chan_map.specs.trace_model.declared.packet.TheConstants.{GAP_LIMIT}
use Rattle.chan_map.specs.trace_model.declared.row.Offers.{Offers}
use Rattle.chan_map.specs.trace_model.declared.row.Row.{Row}
use Rattle.chan_map.specs.trace_model.Clock.{clock, Covers}
use Rattle.chan_map.specs.trace_model.Counting.{IsNth}
use Rattle.chan_map.specs.trace_model.Epoch.{resets}
use Rattle.chan_map.specs.trace_model.Packet.{does, count, content_of, IsPacket}
use Rattle.chan_map.specs.trace_model.Recording.{packets_of, recorded, shown, trace_of, IsTransaction}
use Rattle.chan_map.specs.trace_model.Row.{content_at, completes, AreOffers, AreRows}
use Rattle.chan_map.specs.trace_model.Trace.{IsWellFormed}
use Rattle.net_design.specs.declared.design.Design.{Design}
use Rattle.net_design.specs.Lawful.{IsLawful}
use Rattle.net_design.specs.Pins.{HasOneMap}
use Rattle.chan_map.specs.declared.pins.Map.{Map}
use Rattle.chan_map.specs.declared.text.MapText.{MapText}
use Rattle.chan_map.specs.Bound.{BindsMap}
use Rattle.run_model.specs.declared.held.Held.{Held}
use Rattle.run_model.specs.MapOf.{IsMapOf}
use Rattle.run_model.specs.Offers.{Carries}
use Rattle.run_model.specs.Played.{AreStable}
use Rattle.run_model.specs.Run.{IsRun, IsTheRun}
use Rattle.run_model.specs.Replay.{IsReplay, HasEnded}
use Rattle.run_model.specs.Held.{packet_place, held, waits}

-- ---- a map that is bound to a design is one of it
abbrev pub BoundIsMapOf : Type 0
BoundIsMapOf = (text : MapText) (d : Design) (m : Map) → BindsMap text d (Ok m) → IsMapOf d m

-- ---- exactly one list of n rows
-- a design that settles in one way, with a map of it
pub record IsReady (d : Design) (m : Map) : Type 0 where
  pub lawful : IsLawful d
  pub one_map : HasOneMap d
  pub mapped : IsMapOf d m

-- the gates are those of a plan, which says which are up after the rows before
abbrev pub GatesOf : (List Row → ℕ) → List Row → ℕ → Type 0
GatesOf plan before gates = gates ≡ plan before

-- after all rows the offers and the gates are of these channels
abbrev pub OffersFit : List Channel → (List Row → Offers) → Type 0
OffersFit channels offers = (before : List Row) → AreRows channels before → AreOffers channels (offers before)

abbrev pub GatesFit : List Channel → (List Row → ℕ) → Type 0
GatesFit channels plan = (before : List Row) → AreRows channels before → plan before < 2 ^ length channels

-- exactly one list of n rows is as said
abbrev pub OneOfLength : (List Row → Type 0) → ℕ → Type 0
OneOfLength Is n = ∥ ((rows : List Row) × (length rows ≡ n) × Is rows) ∥₁
    × ((a b : List Row) → length a ≡ n → length b ≡ n → Is a → Is b → a ≡ b)

-- exactly one list of rows ends as said, and in exactly one way
abbrev pub OneThatEnds : (List Row → Option ℕ → Type 0) → Type 0
OneThatEnds Ends = ∥ ((rows : List Row) × (stop : Option ℕ) × Ends rows stop) ∥₁
    × ((a b : List Row) (i j : Option ℕ) → Ends a i → Ends b j → (a ≡ b) × (i ≡ j))

-- exactly one list of n rows with *IsRun*, and exactly one run of n cycles
abbrev pub OneRun : Type 0
OneRun = (d : Design) (m : Map) → IsReady d m → (offers : List Row → Offers) → OffersFit m.channels offers
    → (plan : List Row → ℕ) → GatesFit m.channels plan → (n : ℕ)
    → OneOfLength (IsRun d m offers (GatesOf plan)) n × OneThatEnds (IsTheRun d m offers (GatesOf plan) n)

-- each recorded content fits its ports
abbrev pub ContentsFit : List Channel → List Packet → Type 0
ContentsFit channels packets = All (IsPacket channels) packets

abbrev pub OneReplay : Type 0
OneReplay = (d : Design) (m : Map) → IsReady d m → (packets : List Packet) → ContentsFit m.channels packets → (n : ℕ)
    → OneOfLength (IsReplay d m packets) n

-- ---- contents stay
-- what the environment offers stays until it is taken
abbrev pub OffersStay : List Channel → (List Row → Offers) → Type 0
OffersStay channels offers = (before : List Row) (row : Row) → AreRows channels (before ++ row ∷ [])
    → Carries channels (offers before) row → (c : ℕ) (x : Channel) → slice_get channels c ≡ Some x → x.dir ≡ Inward
    → has (offers before).valids c ≡ true → completes row c ≡ false
    → (has (offers (before ++ row ∷ [])).valids c ≡ true)
    × (content_at channels (offers (before ++ row ∷ [])).contents c ≡ content_at channels (offers before).contents c)

-- gates go down only at completions
abbrev pub GatesStay : List Channel → (List Row → ℕ) → Type 0
GatesStay channels plan = (before : List Row) (row : Row) → AreRows channels (before ++ row ∷ []) → row.gates ≡ plan before
    → (c : ℕ) → has row.gates c ≡ true → completes row c ≡ false → has (plan (before ++ row ∷ [])) c ≡ true

-- each transaction's content in the row of its completion is that of its start
abbrev pub ContentsStay : List Channel → List Row → Type 0
ContentsStay channels rows = (c j t u : ℕ) (x : IsTransaction rows c j t u)
    → content_at channels x.last.contents c ≡ content_at channels x.first.contents c

-- the trace of few enough rows for each gap to fit is well-formed
abbrev pub HasWellFormedTrace : List Channel → List Row → Type 0
HasWellFormedTrace channels rows = length rows < GAP_LIMIT → IsWellFormed (trace_of channels rows)

abbrev pub RunKeepsContents : Type 0
RunKeepsContents = (d : Design) (m : Map) (offers : List Row → Offers) (plan : List Row → ℕ) (rows : List Row)
    → OffersStay m.channels offers → GatesStay m.channels plan → IsRun d m offers (GatesOf plan) rows → AreStable m.channels rows
    → ContentsStay m.channels rows × HasWellFormedTrace m.channels rows

abbrev pub ReplayKeepsContents : Type 0
ReplayKeepsContents = (d : Design) (m : Map) (packets : List Packet) (rows : List Row) → IsReplay d m packets rows
    → AreStable m.channels rows → ContentsStay m.channels rows × HasWellFormedTrace m.channels rows

-- ---- order in the output
-- the events that the replayers control: the starts of an inward channel, the completions of an outward one
abbrev pub controls : Dir → Kind → Bool
controls Inward Start = true
controls Outward End = true
controls Inward kind = false
controls Outward kind = false

-- event j of this kind on channel c, in packet p of the output, is recorded, in packet `place`; its clock covers the recorded one,
-- and a start has the recorded content
pub record IsInOrder (channels : List Channel) (packets out : List Packet) (kind : Kind) (c j p : ℕ) (packet : Packet) : Type 0 where
  pub place : ℕ
  pub original : Packet
  pub is : IsNth (does kind c) packets j place original
  pub covers : Covers (length channels) (clock out p) (clock packets place)
  pub content : kind ≡ Start → content_of channels packet c ≡ content_of channels original c

pub record AreInOrder (channels : List Channel) (packets out : List Packet) : Type 0 where
  -- event by event
  pub events : (kind : Kind) (c j p : ℕ) (x : Channel) (packet : Packet) → slice_get channels c ≡ Some x → controls x.dir kind ≡ true
      → IsNth (does kind c) out j p packet → IsInOrder channels packets out kind c j p packet
  -- the contents of an inward channel are a prefix of those recorded
  pub contents : (c : ℕ) (x : Channel) → slice_get channels c ≡ Some x → x.dir ≡ Inward
      → recorded channels out c ≡ take (length (recorded channels out c)) (recorded channels packets c)

abbrev pub OrderInTheOutput : Type 0
OrderInTheOutput = (d : Design) (m : Map) (packets : List Packet) (rows : List Row) → IsReplay d m packets rows
    → AreStable m.channels rows → AreInOrder m.channels packets (packets_of m.channels rows)

-- ---- no circle
-- the replay's rows have shown each event of packet p
abbrev pub IsShown : ℕ → List Packet → List Row → ℕ → Type 0
IsShown n packets rows p = (kind : Kind) (c : ℕ) (packet : Packet) → c < n → slice_get packets p ≡ Some packet → does kind c packet ≡ true
    → count kind c (take p packets) < shown kind c rows

-- packet p is the first with an event that they haven't shown
pub record IsFirstOpen (n : ℕ) (packets : List Packet) (rows : List Row) (p : ℕ) : Type 0 where
  pub within : p < length packets
  pub before : (q : ℕ) → q < p → IsShown n packets rows q
  pub unshown : ¬ IsShown n packets rows p

-- an event is recorded in packet p
abbrev pub IsIn : List Packet → ℕ → Event → Type 0
IsIn packets p e = packet_place packets e ≡ Some p

-- no event of packet p is held back, and some event of it is waited for
pub record IsFree (channels : List Channel) (packets : List Packet) (rows : List Row) (p : ℕ) : Type 0 where
  pub free : All (λ (h : Held). ¬ IsIn packets p h.event) (held channels packets rows)
  pub event : Event
  pub is_in : IsIn packets p event
  pub waiting : Contains (waits channels packets rows) event

-- of a well-formed trace without resets, as each epoch is one
abbrev pub NoCircle : Type 0
NoCircle = (d : Design) (m : Map) (packets : List Packet) (rows : List Row)
    → IsWellFormed (record { channels = m.channels; packets = packets }) → resets packets ≡ 0
    → IsReplay d m packets rows → AreStable m.channels rows → ¬ HasEnded (length m.channels) packets rows
    → ((p : ℕ) × IsFirstOpen (length m.channels) packets rows p)
    × ((p : ℕ) → IsFirstOpen (length m.channels) packets rows p → IsFree m.channels packets rows p)
