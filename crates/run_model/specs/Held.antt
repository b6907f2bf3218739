-- *End of replay*: what a replay that hasn't ended holds back, and what it waits for.
use Rattle.std.specs.Prelude.{ℕ, ◌+◌, ◌==◌, ◌&&◌, nat_lt, Bool, true, false, not, if◌then◌else◌, List, [], ◌∷◌, ◌++◌, Option, Some, None}
use Rattle.std.specs.Prelude.{length, slice_get, is_some}
use Rattle.std.specs.List.{enumerate_from, filter, flat_map, list_any}
use Rattle.chan_map.specs.vidi_bits.Findings.{is_nil}
use Rattle.chan_map.specs.trace_model.declared.channel.Channel.{Channel}
use Rattle.chan_map.specs.trace_model.declared.channel.Dir.{Dir}
use Rattle.chan_map.specs.trace_model.declared.channel.Dir.TheVariants.{Inward, Outward}
use Rattle.chan_map.specs.trace_model.declared.event.Event.{Event}
use Rattle.chan_map.specs.trace_model.declared.event.Kind.{Kind}
use Rattle.chan_map.specs.trace_model.declared.event.Kind.TheVariants.{Start, End, Reset}
use Rattle.chan_map.specs.trace_model.declared.packet.Packet.{Packet}
use Rattle.chan_map.specs.trace_model.declared.row.Row.{Row}
use Rattle.chan_map.specs.trace_model.Clock.{clock}
use Rattle.chan_map.specs.trace_model.Packet.{count, does}
use Rattle.chan_map.specs.trace_model.Recording.{shown}
use Rattle.chan_map.specs.trace_model.Row.{flies_after, row_before}
use Rattle.run_model.specs.declared.held.Await.{Await}
use Rattle.run_model.specs.declared.held.Held.{Held}
use Rattle.run_model.specs.Replay.{done}

-- the places, from k on, of those of xs that pass
abbrev pub places_from : {X : Type 0} → (X → Bool) → ℕ → List X → List ℕ
places_from test k [] = []
places_from test k (x ∷ xs) = if test x then k ∷ places_from test (k + 1) xs else places_from test (k + 1) xs

-- an event of this epoch
abbrev pub event_in : ℕ → ℕ → Kind → ℕ → Event
event_in epoch channel kind index = record { channel = channel; kind = kind; index = index; epoch = epoch }

abbrev pub event : ℕ → Kind → ℕ → Event
event = event_in 0

-- the number of the packet in which an event is recorded
abbrev pub packet_place : List Packet → Event → Option ℕ
packet_place packets e = slice_get (places_from (does e.kind e.channel) 0 packets) e.index

-- a channel is in flight after the rows
abbrev pub flies : List Row → ℕ → Bool
flies rows c = flies_after (row_before rows (length rows)) c

-- a channel that has fewer completions than needed
abbrev pub await_on : (ℕ → ℕ) → (ℕ → ℕ) → ℕ → List Await
await_on have need c = if nat_lt (have c) (need c) then record { channel = c; have = have c; need = need c } ∷ [] else []

-- all of them, in channel order
abbrev pub awaits : List Channel → (ℕ → ℕ) → (ℕ → ℕ) → List Await
awaits channels have need = flat_map (λ (c : ℕ × Channel). await_on have need c.0) (enumerate_from 0 channels)

-- the next event of channel c that the replayer controls, in an epoch of which these are the rows: a start of an idle inward channel, a
-- completion of an outward one
abbrev pub controlled_in : ℕ → List Row → ℕ → Dir → List Event
controlled_in epoch rows c Inward = if flies rows c then [] else event_in epoch c Start (shown Start c rows) ∷ []
controlled_in epoch rows c Outward = event_in epoch c End (shown End c rows) ∷ []

abbrev pub controlled : List Row → ℕ → Dir → List Event
controlled = controlled_in 0

-- an event with what it awaits, if it awaits anything: its clock isn't covered
abbrev pub held_if : Event → List Await → List Held
held_if e [] = []
held_if e (a ∷ rest) = record { event = e; awaits = a ∷ rest } ∷ []

-- the event recorded at this place, if there is one, where it is held back
abbrev pub held_at : List Channel → List Packet → List Row → Event → Option ℕ → List Held
held_at channels packets rows e None = []
held_at channels packets rows e (Some p) = held_if e (awaits channels (done rows) (clock packets p))

abbrev pub held_event : List Channel → List Packet → List Row → Event → List Held
held_event channels packets rows e = held_at channels packets rows e (packet_place packets e)

-- what is held back of an epoch's packets: in channel order, each controlled event that is recorded and whose clock isn't covered
abbrev pub held_in : ℕ → List Channel → List Packet → List Row → List Held
held_in epoch channels packets rows =
    flat_map (λ (c : ℕ × Channel). flat_map (held_event channels packets rows) (controlled_in epoch rows c.0 c.1.dir)) (enumerate_from 0 channels)

abbrev pub held : List Channel → List Packet → List Row → List Held
held = held_in 0

-- the next event of channel c: a start while it is idle, else the completion
abbrev pub next_event_in : ℕ → List Row → ℕ → Event
next_event_in epoch rows c = if flies rows c then event_in epoch c End (shown End c rows) else event_in epoch c Start (shown Start c rows)

abbrev pub next_event : List Row → ℕ → Event
next_event = next_event_in 0

-- where it is recorded
abbrev pub recorded_next_in : ℕ → List Packet → List Row → ℕ → List Event
recorded_next_in epoch packets rows c =
    if is_some (packet_place packets (next_event_in epoch rows c)) then next_event_in epoch rows c ∷ [] else []

abbrev pub recorded_next : List Packet → List Row → ℕ → List Event
recorded_next = recorded_next_in 0

abbrev pub same_kind : Kind → Kind → Bool
same_kind Start Start = true
same_kind End End = true
same_kind Reset Reset = true
same_kind a b = false

abbrev pub same_event : Event → Event → Bool
same_event a b = (a.epoch == b.epoch) && ((a.channel == b.channel) && (same_kind a.kind b.kind && (a.index == b.index)))

abbrev pub is_held : List Held → Event → Bool
is_held helds e = list_any (λ (h : Held). same_event h.event e) helds

-- what is waited for: in channel order, each channel's next recorded event that isn't held back
abbrev pub waits_in : ℕ → List Channel → List Packet → List Row → List Event
waits_in epoch channels packets rows = filter (λ (e : Event). not (is_held (held_in epoch channels packets rows) e))
    (flat_map (λ (c : ℕ × Channel). recorded_next_in epoch packets rows c.0) (enumerate_from 0 channels))

abbrev pub waits : List Channel → List Packet → List Row → List Event
waits = waits_in 0

-- ---- with resets: the last row is in this epoch, of which these are the packets and the rows; `more` tells whether there is a next one
-- the reset behind the epoch, whose clock is the completions of all of it
abbrev pub reset_event : ℕ → Event
reset_event epoch = event_in epoch 0 Reset epoch

abbrev pub held_reset : ℕ → Bool → List Channel → List Packet → List Row → List Held
held_reset epoch more channels packets rows =
    if more then held_if (reset_event epoch) (awaits channels (done rows) (λ c. count End c packets)) else []

abbrev pub held_of : ℕ → Bool → List Channel → List Packet → List Row → List Held
held_of epoch more channels packets rows = held_in epoch channels packets rows ++ held_reset epoch more channels packets rows

abbrev pub waits_reset : ℕ → Bool → List Channel → List Packet → List Row → List Event
waits_reset epoch more channels packets rows = if more && is_nil (held_reset epoch more channels packets rows) then reset_event epoch ∷ [] else []

abbrev pub waits_of : ℕ → Bool → List Channel → List Packet → List Row → List Event
waits_of epoch more channels packets rows = waits_in epoch channels packets rows ++ waits_reset epoch more channels packets rows
