-- What a `Room` stands for, and what its calls make of it.
use Rattle.std.specs.Prelude.{◌≡◌, ℕ, ◌+◌, ◌^◌, ◌<◌, ◌≤◌, ◌&&◌, ◌||◌, Bool, true, false, not, List, length, nat_le}
use Rattle.trace_model.specs.vidi_bits.Number.{has}
use Rattle.trace_model.specs.Mask.{all_up}
use Rattle.room_ledger.specs.Reservation.{least, reserved, event_len, reset_len, permit_room, AreRaised}

-- the content bytes of each channel, whether there may be resets, the store's capacity, the bytes in it, whether there is a permit to reset,
-- the channels whose gate is up, and those in flight
pub record Ledger : Type 0 where
  pub sizes : List ℕ
  pub resets : Bool
  pub capacity : ℕ
  pub used : ℕ
  pub permit : Bool
  pub gates : ℕ
  pub flying : ℕ

abbrev pub ledger : List ℕ → Bool → ℕ → ℕ → Bool → ℕ → ℕ → Ledger
ledger sizes resets capacity used permit gates flying = record {
  sizes = sizes;
  resets = resets;
  capacity = capacity;
  used = used;
  permit = permit;
  gates = gates;
  flying = flying;
}

-- an empty store, the permit and all gates up, no channel in flight
abbrev pub empty : List ℕ → Bool → ℕ → Ledger
empty sizes resets capacity = ledger sizes resets capacity 0 true (all_up (length sizes)) 0

-- the bytes in the store and all reservations
abbrev pub claimed : Ledger → ℕ
claimed l = l.used + permit_room l.resets l.permit + reserved l.sizes (has l.gates) (has l.flying)

-- whether the design may be reset: only with the permit
abbrev pub may_reset : Ledger → Bool
may_reset l = l.resets && l.permit

-- what holds of each ledger: waiting bytes and reservations fit, and only channels with their gate up are in flight
pub record IsSound (l : Ledger) : Type 0 where
  pub some : 1 ≤ length l.sizes
  pub few : length l.sizes ≤ 128
  pub whole : least l.sizes l.resets ≤ l.capacity
  pub room : claimed l ≤ l.capacity
  pub gates : l.gates < 2 ^ length l.sizes
  pub flying : (c : ℕ) → has l.flying c ≡ true → has l.gates c ≡ true

-- what a cycle may do: each start is of an idle channel with its gate up, and each end of a channel in flight or starting
pub record MayEmit (l : Ledger) (starts ends : ℕ) : Type 0 where
  pub start : (c : ℕ) → has starts c ≡ true → (has l.gates c ≡ true) × (has l.flying c ≡ false)
  pub complete : (c : ℕ) → has ends c ≡ true → (has l.flying c || has starts c) ≡ true

-- a cycle with these starts and ends: its packet is put, a channel that completes loses its gate, and one that starts without
-- completing is in flight
pub record Emitted (old : Ledger) (starts ends : ℕ) (new : Ledger) : Type 0 where
  pub sizes : new.sizes ≡ old.sizes
  pub resets : new.resets ≡ old.resets
  pub capacity : new.capacity ≡ old.capacity
  pub used : new.used ≡ old.used + event_len old.sizes starts ends
  pub permit : new.permit ≡ old.permit
  pub gates : (c : ℕ) → has new.gates c ≡ (has old.gates c && not (has ends c))
  pub flying : (c : ℕ) → has new.flying c ≡ ((has old.flying c || has starts c) && not (has ends c))

-- a reset behind a cycle: its packet is put, the permit goes, and so do the gates of the channels in flight, of which there are none then
pub record IsReset (old new : Ledger) : Type 0 where
  pub sizes : new.sizes ≡ old.sizes
  pub resets : new.resets ≡ old.resets
  pub capacity : new.capacity ≡ old.capacity
  pub used : new.used ≡ old.used + reset_len
  pub permit : new.permit ≡ false
  pub gates : (c : ℕ) → has new.gates c ≡ (has old.gates c && not (has old.flying c))
  pub flying : new.flying ≡ 0

-- the permit stays, and goes up where there is room for it
abbrev pub permit_after : Ledger → Bool
permit_after l = l.permit || nat_le (claimed l + permit_room l.resets true) l.capacity

-- the permit comes first; then gates go up in channel order, where there is room
pub record Regranted (old new : Ledger) : Type 0 where
  pub sizes : new.sizes ≡ old.sizes
  pub resets : new.resets ≡ old.resets
  pub capacity : new.capacity ≡ old.capacity
  pub used : new.used ≡ old.used
  pub permit : new.permit ≡ permit_after old
  pub flying : new.flying ≡ old.flying
  pub gates : AreRaised old.sizes old.capacity (old.used + permit_room new.resets new.permit) (has old.gates) (has old.flying)
      (has new.gates)
