-- What a feed says of packets, and what is offered under it.
use Rattle.std.specs.Prelude.{◌≡◌, ℕ, ◌+◌, ◌*◌, ◌^◌, ◌<◌, ◌↔◌, true, if◌then◌else◌, List, Some, length, slice_get, slice_index}
use Rattle.vec_clock.specs.trace_model.declared.channel.Channel.{Channel}
use Rattle.vec_clock.specs.trace_model.declared.channel.Dir.{Dir}
use Rattle.vec_clock.specs.trace_model.declared.channel.Dir.TheVariants.{Inward, Outward}
use Rattle.vec_clock.specs.trace_model.declared.event.Kind.{Kind}
use Rattle.vec_clock.specs.trace_model.declared.event.Kind.TheVariants.{Start, End}
use Rattle.vec_clock.specs.trace_model.declared.packet.Packet.{Packet}
use Rattle.vec_clock.specs.trace_model.declared.row.Row.{Row}
use Rattle.vec_clock.specs.trace_model.Clock.{clock, Covers}
use Rattle.vec_clock.specs.vidi_bits.Number.{has}
use Rattle.vec_clock.specs.trace_model.Counting.{IsNth}
use Rattle.vec_clock.specs.trace_model.Packet.{does, count, content_of, Fit}
use Rattle.vec_clock.specs.trace_model.Row.{all_widths, content_at}
use Rattle.chan_monitor.specs.run_model.Offers.{no_content}
use Rattle.chan_replayer.specs.declared.feed.Feed.{Feed}

-- a feed over these channels
pub record IsFeedOver (channels : List Channel) (feed : Feed) : Type 0 where
  pub more : feed.more < 2 ^ length channels
  pub needs : length feed.needs ≡ length channels * length channels
  pub contents : Fit (all_widths channels) feed.contents

-- the clock for channel c, in a feed of n channels
abbrev pub need_of : ℕ → Feed → ℕ → ℕ → ℕ
need_of n feed c d = slice_index feed.needs (n * c + d)

-- the events that replayers control
abbrev pub kind_of : Dir → Kind
kind_of Inward = Start
kind_of Outward = End

-- the feed has event k of this kind on channel c, with its clock, and the content of a start
pub record IsFeedAt (channels : List Channel) (packets : List Packet) (kind : Kind) (c k : ℕ) (feed : Feed) : Type 0 where
  pub more : (has feed.more c ≡ true) ↔ k < count kind c packets
  pub need : (p : ℕ) (packet : Packet) → IsNth (does kind c) packets k p packet → (d : ℕ) → d < length channels
      → need_of (length channels) feed c d ≡ clock packets p d
  pub content : (p : ℕ) (packet : Packet) → IsNth (does kind c) packets k p packet → kind ≡ Start
      → content_at channels feed.contents c ≡ content_of channels packet c

-- for each channel the next event that the replayers control, where `have` completions came before
abbrev pub IsFeed : List Channel → List Packet → (ℕ → ℕ) → Feed → Type 0
IsFeed channels packets have feed = (c : ℕ) (x : Channel) → slice_get channels c ≡ Some x
    → IsFeedAt channels packets (kind_of x.dir) c (have c) feed

-- there is a next event on channel c, and its clock is covered
abbrev pub IsUp : ℕ → Feed → (ℕ → ℕ) → ℕ → Type 0
IsUp n feed have c = (has feed.more c ≡ true) × Covers n have (need_of n feed c)

-- the row has what is offered on channel c under the feed. Inward: valid is up exactly where the next start is covered, with its
-- content, else the content is 0. Outward: ready is up exactly where the next completion is covered.
abbrev pub IsFedOn : List Channel → Feed → (ℕ → ℕ) → Row → ℕ → Dir → Type 0
IsFedOn channels feed have row c Inward = ((has row.valids c ≡ true) ↔ IsUp (length channels) feed have c)
    × (content_at channels row.contents c ≡ (if has row.valids c then content_at channels feed.contents c else no_content channels c))
IsFedOn channels feed have row c Outward = (has row.readies c ≡ true) ↔ IsUp (length channels) feed have c
