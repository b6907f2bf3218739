-- The parts of a trace on both sides of a move, and the clocks of what stands in them.
use Rattle.std.specs.Prelude.{◌≡◌, ℕ, ◌+◌, ◌==◌, Bool, true, false, List, ◌∷◌, ◌++◌, length, if◌then◌else◌}
use Rattle.trace_model.specs.declared.event.Kind.TheVariants.{End}
use Rattle.trace_model.specs.declared.packet.Packet.{Packet}
use Rattle.trace_model.specs.Epoch.{since_reset}
use Rattle.trace_model.specs.Packet.{count}
use Rattle.trace_edit.specs.declared.place.Move.{Move}
use Rattle.trace_edit.specs.Moved.{alone, without}

-- the clock of an event behind these packets (*Clock*): for each channel, its completions in those of the event's epoch
abbrev pub clock_behind : List Packet → ℕ → ℕ
clock_behind packets d = count End d (since_reset packets)

-- 1 for channel c itself
abbrev pub own : ℕ → ℕ → ℕ
own c d = if d == c then 1 else 0

-- moved by `after` out of `packet`, over the packets `between`, the last of which is the other's
pub record IsMovedAfter (m : Move) (old new : List Packet) : Type 0 where
  pub first : List Packet
  pub packet : Packet
  pub between : List Packet
  pub last : List Packet
  pub from : length first ≡ m.from
  pub to : m.from + length between ≡ m.to
  pub before : old ≡ first ++ packet ∷ (between ++ last)
  pub now : new ≡ first ++ (without m.channel packet ++ (between ++ alone m.channel ∷ last))
  -- those between have one completion of the channel less; the moved one, behind all of them, has all but itself
  pub less : (xs ys : List Packet) → between ≡ xs ++ ys → (d : ℕ)
      → clock_behind (first ++ packet ∷ xs) d ≡ clock_behind (first ++ (without m.channel packet ++ xs)) d + own m.channel d
  -- those behind it have as many
  pub same : (xs ys : List Packet) → last ≡ xs ++ ys → (d : ℕ)
      → clock_behind (first ++ (without m.channel packet ++ (between ++ alone m.channel ∷ xs))) d
      ≡ clock_behind (first ++ packet ∷ (between ++ xs)) d

-- moved by `before` out of `packet`, over the packets `between`, the first of which is the other's; its clock is that behind `first`
pub record IsMovedBefore (m : Move) (old new : List Packet) : Type 0 where
  pub first : List Packet
  pub between : List Packet
  pub packet : Packet
  pub last : List Packet
  pub to : length first ≡ m.to
  pub from : m.to + length between ≡ m.from
  pub before : old ≡ first ++ (between ++ packet ∷ last)
  pub now : new ≡ first ++ alone m.channel ∷ (between ++ (without m.channel packet ++ last))
  -- those between, and what is left of its packet behind all of them, have one completion of the channel more
  pub more : (xs ys : List Packet) → between ≡ xs ++ ys → (d : ℕ)
      → clock_behind (first ++ alone m.channel ∷ xs) d ≡ clock_behind (first ++ xs) d + own m.channel d
  -- those behind it have as many
  pub same : (xs ys : List Packet) → last ≡ xs ++ ys → (d : ℕ)
      → clock_behind (first ++ alone m.channel ∷ (between ++ (without m.channel packet ++ xs))) d
      ≡ clock_behind (first ++ (between ++ packet ∷ xs)) d

abbrev pub IsMovedOn : Bool → Move → List Packet → List Packet → Type 0
IsMovedOn true m old new = IsMovedAfter m old new
IsMovedOn false m old new = IsMovedBefore m old new
