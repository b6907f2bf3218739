-- Feeds that are alike on some channels.
use Rattle.std.specs.Prelude.{◌≡◌, ℕ, ◌+◌, ◌*◌, ◌<◌, false, List, Some, length, slice_get, slice_index}
use Rattle.trace_code.specs.vidi_bits.Number.{has}
use Rattle.trace_code.specs.trace_model.declared.channel.Channel.{Channel}
use Rattle.trace_code.specs.trace_model.declared.packet.Packet.{Packet}
use Rattle.trace_code.specs.trace_model.declared.trace.Trace.{Trace}
use Rattle.trace_code.specs.trace_model.Counting.{IsNth}
use Rattle.trace_code.specs.trace_model.Epoch.{epoch}
use Rattle.trace_code.specs.trace_model.Packet.{does}
use Rattle.trace_code.specs.trace_model.Row.{content_at}
use Rattle.trace_code.specs.declared.cursor.Cursor.{Cursor}
use Rattle.trace_code.specs.Stands.{Stands}
use Rattle.run_stage.specs.chan_replayer.declared.feed.Feed.{Feed}
use Rattle.run_stage.specs.chan_replayer.Feed.{kind_of, need_of, IsFeedAt}
use Rattle.replay_run.specs.Behind.{epoch_clock}
use Rattle.replay_run.specs.Epochs.{before_epoch}

-- two feeds say the same of channel c
pub record IsSameAt (channels : List Channel) (c : ℕ) (old new : Feed) : Type 0 where
  pub more : has new.more c ≡ has old.more c
  pub need : (d : ℕ) → d < length channels → need_of (length channels) new c d ≡ need_of (length channels) old c d
  pub content : content_at channels new.contents c ≡ content_at channels old.contents c

-- *IsFeed* of channel c alone
abbrev pub IsChannelFed : List Channel → List Packet → (ℕ → ℕ) → ℕ → Feed → Type 0
IsChannelFed channels packets have c feed = (x : Channel) → slice_get channels c ≡ Some x → IsFeedAt channels packets (kind_of x.dir) c (have c) feed

-- *IsFeed* of each channel that the mask doesn't name
abbrev pub IsFeedBut : ℕ → List Channel → List Packet → (ℕ → ℕ) → Feed → Type 0
IsFeedBut mask channels packets have feed = (c : ℕ) → has mask c ≡ false → IsChannelFed channels packets have c feed

-- clock b of the clocks of n channels is that of the event at which the cursor stands
abbrev pub IsClockAt : Trace → Cursor → ℕ → List ℕ → ℕ → Type 0
IsClockAt t k n needs b = (j p : ℕ) (packet : Packet) → Stands k t j → IsNth (does k.kind k.channel) t.packets j p packet
    → (d : ℕ) → d < n → slice_index needs (n * b + d) ≡ epoch_clock t.packets p d

-- the packet of the event at which the cursor stands, in epoch e, has the next event of channel b that the replayers control
abbrev pub IsBeside : Trace → ℕ → (ℕ → ℕ) → Cursor → ℕ → Type 0
IsBeside t e have k b = (x : Channel) → slice_get t.channels b ≡ Some x → (j p : ℕ) (packet : Packet) → Stands k t j
    → IsNth (does k.kind k.channel) t.packets j (length (before_epoch e t.packets) + p) packet → p < length (epoch e t.packets)
    → IsNth (does (kind_of x.dir) b) (epoch e t.packets) (have b) p packet
