-- Code in range of a design, and what its masks say.
use Rattle.std.proofs.Common.{◌≡◌, ℕ, ◌+◌, ◌^◌, ◌<◌, ◌≤◌, ◌↔◌, Bool, true, IsTrue, List, Some, length, get_or, take, slice_get}
use Rattle.std.proofs.Common.{ap, sym, subst, ◌∙◌, arith}
use Rattle.std.specs.List.{sum_by}
use Rattle.std.proofs.lemmas.Bool.{leb-true, ltb-true, eqb-true, and_parts}
use Rattle.std.proofs.lemmas.List.Folds.{Any-from_list_any}
use Rattle.std.proofs.lemmas.List.Sums.{sum_by_more_le}
use Rattle.net_design.specs.declared.rhs.Span.{Span}
use Rattle.net_design.specs.declared.rhs.Room.{Room}
use Rattle.net_design.specs.declared.act.Act.{Act}
use Rattle.net_design.specs.declared.act.Code.{Code}
use Rattle.net_design.specs.declared.act.Mask.{Mask}
use Rattle.net_design.specs.declared.act.Timing.TheVariants.{Blocking, Nonblocking}
use Rattle.net_design.specs.declared.design.Driver.{Driver}
use Rattle.net_design.specs.declared.design.DesignMemory.{DesignMemory}
use Rattle.net_design.specs.declared.design.Design.{Design}
use Rattle.net_design.specs.Bits.{BitSet, HasBits, named}
use Rattle.net_design.specs.Sized.{IsShort, IsCountable, IsSizedBlock}
use Rattle.net_design.specs.Settled.{net_width, word_count}
use Rattle.net_design.specs.Lawful.{IsInRange, is_span, is_room}
use Rattle.net_design.proofs.LawfulCode.{block_more, slice_get-at}
use Rattle.net_code.specs.declared.bit_map.BitMap.{BitMap}
use Rattle.net_code.specs.BitMap.{in_map}
use Rattle.net_lawful.specs.declared.rooms.Rooms.{Rooms}
use Rattle.net_lawful.specs.Frame.{IsFramed}
use Rattle.net_lawful.specs.Rooms.{IsSpan, IsRoom, IsBlockIn}
use Rattle.net_lawful.specs.Coded.{AreRooms, HaveBits}
use Rattle.net_lawful.proofs.RegisterLaws.{framed_width}

-- ---- rooms that are the design's memories
module _ (d : Design) (rooms : Rooms) (same : AreRooms d rooms) where
  pub range_is : (acts : List Act) → IsBlockIn d rooms acts ↔ IsInRange d acts
  range_is acts = (
    (λ h. block_more (IsSpan d) (λ s. IsTrue (is_span d s)) (IsRoom rooms) (λ r n. IsTrue (is_room d r n)) (λ s x. x)
        (λ r n x. subst IsTrue (same r n) x) acts h),
    (λ h. block_more (λ s. IsTrue (is_span d s)) (IsSpan d) (λ r n. IsTrue (is_room d r n)) (IsRoom rooms) (λ s x. x)
        (λ r n x. subst IsTrue (sym (same r n)) x) acts h),
  )

-- ---- code in range can be evaluated
room_within : (d : Design) → IsFramed d → (r : Room) (n : ℕ) → IsTrue (is_room d r n) → (r.first + r.length ≤ word_count d) × (n ≤ 128)
room_within d framed r n h =
    let found = Any-from_list_any _ d.memories h in
    let k = found.0 in
    let a : DesignMemory = found.1 in
    let at : slice_get d.memories k ≡ Some a = slice_get-at d.memories k a found.2 found.3 in
    let t = and_parts _ _ found.4 in
    let u = and_parts _ _ t.1 in
    let first : a.room.first ≡ r.first = eqb-true _ _ t.0 in
    let size : a.room.length ≡ r.length = eqb-true _ _ u.0 in
    let wide : n ≤ a.width = leb-true _ _ u.1 in
    let before = framed.rooms k a at in
    let all : sum_by (λ (x : DesignMemory). x.room.length) (take k d.memories) +
    (get_or d.memories k a).room.length ≤ word_count d = sum_by_more_le (λ (x : DesignMemory). x.room.length) d.memories k a found.2 in
    let item : (get_or d.memories k a).room.length ≡ a.room.length = ap (λ (x : DesignMemory). x.room.length) found.3 in
    let widest : (get_or d.memories k a).width ≤ 128 = (framed.memories k a found.2).0.1 in
    let width : (get_or d.memories k a).width ≡ a.width = ap (λ (x : DesignMemory). x.width) found.3 in
    (omega arith, omega arith)

span_within : (d : Design) (s : Span) → IsTrue (is_span d s) → (s.net < length d.nets) × (s.low + s.width ≤ net_width d s.net)
span_within d s h =
    let t = and_parts _ _ h in
    (ltb-true _ _ t.0, leb-true _ _ t.1)

pub range_sized : (d : Design) → IsFramed d → (acts : List Act) → IsInRange d acts → IsSizedBlock acts
range_sized d framed acts h =
    let small : word_count d < 2 ^ 32 = framed.small.words in
    let few : length d.nets < 2 ^ 32 = framed.small.nets in
    block_more (λ s. IsTrue (is_span d s)) (IsShort (2 ^ 64)) (λ r n. IsTrue (is_room d r n)) (IsCountable (2 ^ 64))
    (λ s x. let w = framed_width d framed s.net in let t = span_within d s x in (omega (arith, t.0), omega (arith, t.1)))
    (λ r n x. let w = room_within d framed r n x in (omega arith, w.1))
    acts h

-- ---- sets that are known
pub meets_set : (set : BitMap) (p : BitSet) (masks : List Mask) (b : Bool) → ((m k : ℕ) → in_map set m k ≡ p m k)
    → ((m k : ℕ) → named masks m k ≡ true → in_map set m k ≡ b) ↔ ((m k : ℕ) → named masks m k ≡ true → p m k ≡ b)
meets_set set p masks b same = ((λ h m k t. sym (same m k) ∙ h m k t), (λ h m k t. same m k ∙ h m k t))

-- ---- masks of a driver or a block
pub driver_bits : (d : Design) → HaveBits d → (k : ℕ) (x : Driver) → k < length d.drivers → x ≡ get_or d.drivers k x
    → HasBits Blocking x.code
driver_bits d have k x l e = subst (λ (y : Driver). HasBits Blocking y.code) (sym e) (have.drivers k x l)

pub block_bits : (d : Design) → HaveBits d → (k : ℕ) (c : Code) → k < length d.blocks → c ≡ get_or d.blocks k c → HasBits Nonblocking c
block_bits d have k c l e = subst (λ (x : Code). HasBits Nonblocking x) (sym e) (have.blocks k c l)
