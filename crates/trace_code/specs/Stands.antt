-- What a cursor stands for.
use Rattle.std.specs.Prelude.{◌≡◌, ℕ, ◌+◌, ◌*◌, ◌<◌, Some, slice_get, length, drop, take}
use Rattle.vec_clock.specs.trace_model.declared.channel.Channel.{Channel}
use Rattle.vec_clock.specs.trace_model.declared.event.Kind.{Kind}
use Rattle.vec_clock.specs.trace_model.declared.trace.Trace.{Trace}
use Rattle.vec_clock.specs.trace_model.Length.{sizes_under}
use Rattle.trace_code.specs.declared.cursor.Cursor.{Cursor}
use Rattle.trace_code.specs.Counted.{counted}
use Rattle.trace_code.specs.Heads.{IsHead}
use Rattle.trace_code.specs.Standing.{StandsAt}

-- the cursor walks over the events of this kind on channel c
abbrev pub WalksOver : Cursor → Kind → ℕ → Type 0
WalksOver k kind c = (k.kind ≡ kind) × (k.channel ≡ c)

-- its channel is there, with the widths that the cursor keeps; the packets behind the next event's have its head, as far as it has looked; and
-- of that packet's contents so many bytes stand before its channel's
pub record IsOf (t : Trace) (k : Cursor) : Type 0 where
  pub channel : Channel
  pub at : slice_get t.channels k.channel ≡ Some channel
  pub widths : k.widths ≡ channel.widths
  pub ahead : (i : ℕ) → i < k.same → IsHead (length k.head.sizes.items) k.head.reset k.head.starts k.head.ends (drop ((i + 1) * k.head.len) k.rest.now)
  pub below : k.below ≡ sizes_under k.head.starts (take k.channel k.head.sizes.items)

-- event j of its kind on its channel is the next one; where the trace has none, the cursor is at its end
abbrev pub Stands : Cursor → Trace → ℕ → Type 0
Stands k t j = StandsAt t k.kind k.channel j k.head.sizes.items k.rest.now (counted k.clock) k.head.reset k.head.starts k.head.ends
    × IsOf t k
