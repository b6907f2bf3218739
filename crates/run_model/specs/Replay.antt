-- *IsReplay*: which recorded events a replay lets come, and the replay of n cycles.
use Rattle.std.specs.Prelude.{◌≡◌, ℕ, ◌<◌, ◌≤◌, ◌↔◌, Bool, true, false, List, Some, length, take, slice_get}
use Rattle.chan_map.specs.vidi_bits.Number.{has}
use Rattle.chan_map.specs.trace_model.declared.channel.Channel.{Channel}
use Rattle.chan_map.specs.trace_model.declared.channel.Dir.{Dir}
use Rattle.chan_map.specs.trace_model.declared.channel.Dir.TheVariants.{Inward, Outward}
use Rattle.chan_map.specs.trace_model.declared.event.Kind.{Kind}
use Rattle.chan_map.specs.trace_model.declared.event.Kind.TheVariants.{Start, End}
use Rattle.chan_map.specs.trace_model.declared.packet.Packet.{Packet}
use Rattle.chan_map.specs.trace_model.declared.row.Row.{Row}
use Rattle.chan_map.specs.trace_model.Clock.{clock, Covers}
use Rattle.chan_map.specs.trace_model.Counting.{IsNth}
use Rattle.chan_map.specs.trace_model.Packet.{does, count, content_of}
use Rattle.chan_map.specs.trace_model.Recording.{shown}
use Rattle.chan_map.specs.trace_model.Row.{content_at}
use Rattle.net_design.specs.declared.design.Design.{Design}
use Rattle.chan_map.specs.declared.pins.Map.{Map}
use Rattle.run_model.specs.Offers.{no_content}
use Rattle.run_model.specs.Played.{IsPlayed, AreStable, StopsBefore, all_up, is_fresh_after}

-- each channel's number of completions in the rows
abbrev pub done : List Row → ℕ → ℕ
done rows c = shown End c rows

-- the packets have event k of this kind on channel c, and `have` covers its clock
pub record IsCovered (n : ℕ) (packets : List Packet) (have : ℕ → ℕ) (kind : Kind) (c k : ℕ) : Type 0 where
  pub place : ℕ
  pub packet : Packet
  pub is : IsNth (does kind c) packets k place packet
  pub covers : Covers n have (clock packets place)

-- Inward, with `have c` completions: valid is up exactly where that start is recorded and covered, with its content, else the
-- content is 0. Outward: ready is up exactly where that completion is recorded and covered.
abbrev pub IsOfferedOn : List Channel → List Packet → (ℕ → ℕ) → Row → ℕ → Dir → Type 0
IsOfferedOn channels packets have row c Inward =
    ((has row.valids c ≡ true) ↔ IsCovered (length channels) packets have Start c (have c))
    × (has row.valids c ≡ true → (place : ℕ) (packet : Packet) → IsNth (does Start c) packets (have c) place packet
    → content_at channels row.contents c ≡ content_of channels packet c)
    × (has row.valids c ≡ false → content_at channels row.contents c ≡ no_content channels c)
IsOfferedOn channels packets have row c Outward = (has row.readies c ≡ true) ↔ IsCovered (length channels) packets have End c (have c)

-- the row has what a replay of these packets offers where `have` completions came before
abbrev pub IsOffered : List Channel → List Packet → (ℕ → ℕ) → Row → Type 0
IsOffered channels packets have row = (c : ℕ) (channel : Channel) → slice_get channels c ≡ Some channel
    → IsOfferedOn channels packets have row c channel.dir

-- a row of a stretch of a replay, which shows one epoch: it has what is offered after the rows before it, all gates are up, and it is
-- fresh where it is the first one behind a reset in mid-run
abbrev pub IsEpochRow : Bool → List Channel → List Packet → List Row → Row → Type 0
IsEpochRow later channels packets before row =
    IsOffered channels packets (done before) row × (row.gates ≡ all_up channels) × (row.fresh ≡ is_fresh_after later before)

-- a row of a replay of packets without a reset
abbrev pub IsReplayRow : List Channel → List Packet → List Row → Row → Type 0
IsReplayRow = IsEpochRow false

-- the rows are a stretch of a replay, from the map's reset on or from one in mid-run to the next
abbrev pub IsReplayStretch : Bool → Design → Map → List Packet → List Row → Type 0
IsReplayStretch later d m packets rows = IsPlayed d m (IsEpochRow later m.channels packets) rows

abbrev pub IsReplay : Design → Map → List Packet → List Row → Type 0
IsReplay d m packets rows = IsPlayed d m (IsReplayRow m.channels packets) rows

-- *End of replay*: each of n channels has at least as many starts and completions as recorded
abbrev pub HasEnded : ℕ → List Packet → List Row → Type 0
HasEnded n packets rows = (kind : Kind) (c : ℕ) → c < n → count kind c packets ≤ shown kind c rows

-- no shorter front of the rows has ended
abbrev pub IsGoing : ℕ → List Packet → List Row → Type 0
IsGoing n packets rows = (k : ℕ) → k < length rows → ¬ HasEnded n packets (take k rows)

-- the replay of at most n cycles, where it ends: the shortest that has ended
pub record IsEndedReplay (d : Design) (m : Map) (packets : List Packet) (n : ℕ) (rows : List Row) : Type 0 where
  pub played : IsReplay d m packets rows
  pub stable : AreStable m.channels rows
  pub within : length rows ≤ n
  pub ended : HasEnded (length m.channels) packets rows
  pub shortest : IsGoing (length m.channels) packets rows

-- where a row is unstable first: the rows before it, with its lowest channel
pub record IsUnstableReplay (d : Design) (m : Map) (packets : List Packet) (n : ℕ) (rows : List Row) (c : ℕ) : Type 0 where
  pub stops : StopsBefore d m (IsReplayRow m.channels packets) rows c
  pub within : length rows < n
  pub going : IsGoing (length m.channels) packets rows
  pub not_ended : ¬ HasEnded (length m.channels) packets rows

-- else n rows
pub record IsShortReplay (d : Design) (m : Map) (packets : List Packet) (n : ℕ) (rows : List Row) : Type 0 where
  pub played : IsReplay d m packets rows
  pub stable : AreStable m.channels rows
  pub all : length rows ≡ n
  pub going : IsGoing (length m.channels) packets rows
  pub not_ended : ¬ HasEnded (length m.channels) packets rows
