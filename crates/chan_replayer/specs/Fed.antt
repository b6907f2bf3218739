-- A shell behind replayers.
use Rattle.std.specs.Prelude.{◌≡◌, ℕ, ◌^◌, ◌<◌, ◌↔◌, true, if◌then◌else◌, List, Option, None, Some, length, slice_get, slice_index}
use Rattle.vec_clock.specs.vidi_bits.Number.{has}
use Rattle.vec_clock.specs.trace_model.declared.channel.Channel.{Channel}
use Rattle.vec_clock.specs.trace_model.declared.channel.Dir.{Dir}
use Rattle.vec_clock.specs.trace_model.declared.channel.Dir.TheVariants.{Inward, Outward}
use Rattle.vec_clock.specs.trace_model.declared.row.Offers.{Offers}
use Rattle.vec_clock.specs.trace_model.declared.row.Row.{Row}
use Rattle.vec_clock.specs.trace_model.Row.{content_at, row_before, AreOffers}
use Rattle.net_design.specs.declared.design.Design.{Design}
use Rattle.net_design.specs.declared.values.Values.{Values}
use Rattle.chan_monitor.specs.run_model.Offers.{no_content, AreZeroWhileDown}
use Rattle.chan_monitor.specs.run_model.Replay.{done}
use Rattle.chan_replayer.specs.declared.feed.Feed.{Feed}
use Rattle.chan_replayer.specs.Feed.{IsUp}

-- the numbers on channel c: those that are fed while its valid is up, else 0 for each port
abbrev pub fed_content : List Channel → ℕ → List ℕ → ℕ → List ℕ
fed_content channels valids contents c = if has valids c then content_at channels contents c else no_content channels c

-- the mask names the channels of a direction whose next event is there and covered
pub record AreOffered (channels : List Channel) (dir : Dir) (feed : Feed) (have : ℕ → ℕ) (mask : ℕ) : Type 0 where
  pub below : mask < 2 ^ length channels
  pub each : (c : ℕ) (x : Channel) → slice_get channels c ≡ Some x → (has mask c ≡ true) ↔ ((x.dir ≡ dir) × IsUp (length channels) feed have c)

-- the offers are those that replayers make of the feed, where `have` completions came before
pub record AreFed (channels : List Channel) (have : ℕ → ℕ) (feed : Feed) (offers : Offers) : Type 0 where
  pub over : AreOffers channels offers
  pub zeros : AreZeroWhileDown channels offers
  pub valid : (c : ℕ) (x : Channel) → slice_get channels c ≡ Some x → x.dir ≡ Inward
      → (has offers.valids c ≡ true) ↔ IsUp (length channels) feed have c
  pub content : (c : ℕ) (x : Channel) → slice_get channels c ≡ Some x → x.dir ≡ Inward → has offers.valids c ≡ true
      → content_at channels offers.contents c ≡ content_at channels feed.contents c
  pub ready : (c : ℕ) (x : Channel) → slice_get channels c ≡ Some x → x.dir ≡ Outward
      → (has offers.readies c ≡ true) ↔ IsUp (length channels) feed have c

-- the shell runs some design and no row came yet, as where it was just made or reset
abbrev pub IsFresh : (Design → Values → Option Row → Type 0) → Type 0
IsFresh runs = (d : Design) × (s : Values) × runs d s None

-- the shell runs behind the last of these rows, whose completions were counted
pub record IsFedAround (runs : Design → Values → Option Row → Type 0) (have : List ℕ) (d : Design) (s : Values) (rows : List Row) : Type 0 where
  pub on : runs d s (row_before rows (length rows))
  pub counts : (c : ℕ) → c < length have → slice_index have c ≡ done rows c
