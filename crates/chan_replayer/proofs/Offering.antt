-- What is offered under a feed is what a replay offers.
use Rattle.std.proofs.Common.{◌≡◌, ℕ, List, Some, length, slice_get, refl, ◌∙◌, arith}
use Rattle.std.proofs.lemmas.Bool.{cond-true, cond-false}
use Rattle.std.specs.Prelude.{◌↔◌}
use Rattle.vec_clock.specs.trace_model.declared.channel.Channel.{Channel}
use Rattle.vec_clock.specs.trace_model.declared.channel.Dir.{Dir}
use Rattle.vec_clock.specs.trace_model.declared.channel.Dir.TheVariants.{Inward, Outward}
use Rattle.vec_clock.specs.trace_model.declared.event.Kind.{Kind}
use Rattle.vec_clock.specs.trace_model.declared.event.Kind.TheVariants.{Start, End}
use Rattle.vec_clock.specs.trace_model.declared.packet.Packet.{Packet}
use Rattle.vec_clock.specs.trace_model.declared.row.Row.{Row}
use Rattle.vec_clock.specs.vidi_bits.Number.{has}
use Rattle.vec_clock.specs.trace_model.Packet.{does}
use Rattle.vec_clock.specs.trace_model.Row.{content_at}
use Rattle.vec_clock.proofs.trace_model_lemmas.CountingLemmas.{nth, nth-below}
use Rattle.chan_monitor.specs.run_model.Offers.{no_content}
use Rattle.chan_monitor.specs.run_model.Replay.{done, IsCovered, IsOfferedOn, IsOffered}
use Rattle.chan_replayer.specs.declared.feed.Feed.{Feed}
use Rattle.chan_replayer.specs.Feed.{IsFedOn, IsFeed, IsFeedAt, IsUp, kind_of}
use Rattle.chan_replayer.specs.Laws.{FedRowsReplay}

-- the feed's event is covered exactly where the recorded one is
covered : (channels : List Channel) (packets : List Packet) (have : ℕ → ℕ) (kind : Kind) (c : ℕ) (feed : Feed)
    → IsFeedAt channels packets kind c (have c) feed
    → IsUp (length channels) feed have c ↔ IsCovered (length channels) packets have kind c (have c)
covered channels packets have kind c feed at = (
  λ (up : IsUp (length channels) feed have c).
      (let found = nth (does kind c) packets (have c) (at.more.0 up.0) in
      record {
        place = found.place;
        packet = found.item;
        is = found.is;
        covers = λ d l. (let a = at.need found.place found.item found.is d l in let b = up.1 d l in omega (arith, a, b));
      }),
  λ (w : IsCovered (length channels) packets have kind c (have c)). (
    at.more.1 (nth-below (does kind c) packets (have c) w.place w.packet w.is),
    λ d l. (let a = at.need w.place w.packet w.is d l in let b = w.covers d l in omega (arith, a, b)),
  ),
)

both : {A B C : Type 0} → (A ↔ B) → (B ↔ C) → A ↔ C
both p q = (λ a. q.0 (p.0 a), λ c. p.1 (q.1 c))

offered-on : (channels : List Channel) (packets : List Packet) (have : ℕ → ℕ) (row : Row) (c : ℕ) (dir : Dir) (feed : Feed)
    → IsFeedAt channels packets (kind_of dir) c (have c) feed → IsFedOn channels feed have row c dir
    → IsOfferedOn channels packets have row c dir
offered-on channels packets have row c Inward feed at fed = (
  both fed.0 (covered channels packets have Start c feed at),
  λ t place packet is. fed.1 ∙ cond-true (has row.valids c) (content_at channels feed.contents c) (no_content channels c) t
      ∙ at.content place packet is refl,
  λ f. fed.1 ∙ cond-false (has row.valids c) (content_at channels feed.contents c) (no_content channels c) f,
)
offered-on channels packets have row c Outward feed at fed = both fed (covered channels packets have End c feed at)

pub offered : (channels : List Channel) (packets : List Packet) (have : ℕ → ℕ) (row : Row) (feed : Feed) → IsFeed channels packets have feed
    → ((c : ℕ) (x : Channel) → slice_get channels c ≡ Some x → IsFedOn channels feed have row c x.dir)
    → IsOffered channels packets have row
offered channels packets have row feed is fed c x at = offered-on channels packets have row c x.dir feed (is c x at) (fed c x at)

pub fed-rows_replay : FedRowsReplay
fed-rows_replay d m s packets rows feed row is shown fresh = (offered m.channels packets (done rows) row feed is shown.fed, shown.gates_are, fresh)
