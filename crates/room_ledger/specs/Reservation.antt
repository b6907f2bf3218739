-- What the channels reserve in the store (this project's profile). `sizes` has the content bytes b_c of each channel, in channel order.
use Rattle.std.specs.Prelude.{◌≡◌, ℕ, ◌+◌, ◌*◌, ◌≤◌, ◌==◌, ◌&&◌, Bool, true}
use Rattle.std.specs.Prelude.{false, not, List, Some, length, take, slice_get, nat_le, sum_by, if◌then◌else◌}
use Rattle.std.specs.List.{enumerate_from}
use Rattle.trace_model.specs.declared.packet.TheConstants.{RESET_LEN}
use Rattle.trace_model.specs.Length.{head_len, sizes_under}

-- R_c: a packet of the start with the content, and one of the end; `head` is H, the length of a packet without contents
abbrev pub whole : ℕ → ℕ → ℕ
whole head size = 2 * head + size

-- the sum of all R_c
abbrev pub need : List ℕ → ℕ
need sizes = sum_by (whole (head_len (length sizes))) sizes

-- the bytes of the packet of a reset
abbrev pub reset_len : ℕ
reset_len = RESET_LEN

-- what the permit to reset reserves: those bytes, where there may be resets and it is up
abbrev pub permit_room : Bool → Bool → ℕ
permit_room resets permit = if resets && permit then reset_len else 0

-- the least capacity: the sum of all R_c, and where there may be resets the room of a permit
abbrev pub least : List ℕ → Bool → ℕ
least sizes resets = if resets then need sizes + reset_len else need sizes

-- the length of the packet of these starts and ends: H and b_c of each start; 0 where there is no event
abbrev pub event_len : List ℕ → ℕ → ℕ → ℕ
event_len sizes starts ends = if starts == 0 && ends == 0 then 0 else head_len (length sizes) + sizes_under starts sizes

-- what a channel (c, b_c) reserves: H in flight and R_c idle, while its gate is up
abbrev pub reservation : ℕ → (ℕ → Bool) → (ℕ → Bool) → ℕ × ℕ → ℕ
reservation head up flies c = if up c.0 then (if flies c.0 then head else whole head c.1) else 0

-- all reservations
abbrev pub reserved : List ℕ → (ℕ → Bool) → (ℕ → Bool) → ℕ
reserved sizes up flies = sum_by (reservation (head_len (length sizes)) up flies) (enumerate_from 0 sizes)

-- the R_d of the gates that are up now and weren't kept, of the channels below c
abbrev pub raised_below : List ℕ → (ℕ → Bool) → (ℕ → Bool) → ℕ → ℕ
raised_below sizes kept up c =
    sum_by (λ (d : ℕ × ℕ). if up d.0 && not (kept d.0) then whole (head_len (length sizes)) d.1 else 0) (enumerate_from 0 (take c sizes))

-- which gates are up, where these were kept: a gate that isn't kept goes up exactly where the bytes used, all kept reservations,
-- the R_d of the gates raised before it in channel order, and its own R_c add up to at most the capacity
pub record AreRaised (sizes : List ℕ) (capacity used : ℕ) (kept flies up : ℕ → Bool) : Type 0 where
  pub channels : (c : ℕ) → length sizes ≤ c → up c ≡ false
  pub stay : (c : ℕ) → kept c ≡ true → up c ≡ true
  pub raised : (c size : ℕ) → slice_get sizes c ≡ Some size → kept c ≡ false
      → up c ≡ nat_le (used + reserved sizes kept flies + raised_below sizes kept up c + whole (head_len (length sizes)) size) capacity
