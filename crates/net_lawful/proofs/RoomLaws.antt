-- Memories that are found by their first words.
use Rattle.std.proofs.Common.{◌≡◌, ℕ, ◌+◌, ◌<◌, ◌≤◌, ◌==◌, ◌&&◌, ◌||◌, nat_le, Bool, true, false, List, [], All}
use Rattle.std.proofs.Common.{Some, length, get_or, take, slice_get}
use Rattle.std.proofs.Common.{if◌then◌else◌, refl, ap, sym, subst, ◌∙◌, ⊎_elim, arith}
use Rattle.std.specs.List.{list_any, sum_by}
use Rattle.std.specs.Ordering.{nat_cmp}
use Rattle.std.specs.Map.{lookup}
use Rattle.std.specs.BTreeMap.{is_at}
use Rattle.std.proofs.lemmas.Bool.{cases_lt, eqb-true, false_from_ne_true, and_parts}
use Rattle.std.proofs.lemmas.Option.{get_or_from_slice_get}
use Rattle.std.proofs.lemmas.List.{get_or-take, take-take, length-take-le}
use Rattle.std.proofs.lemmas.List.Folds.{Any-from_list_any, list_any_more}
use Rattle.std.proofs.lemmas.List.Sums.{sum_by_more, sum_by_more_le}
use Rattle.net_design.specs.Settled.{room_length}
use Rattle.net_code.proofs.vidi_bits_lemmas.Bools.{or_none}
use Rattle.net_design.specs.declared.rhs.Room.{Room}
use Rattle.net_design.specs.declared.design.DesignMemory.{DesignMemory}
use Rattle.net_design.proofs.LawfulCode.{slice_get-at}
use Rattle.net_lawful.specs.declared.rooms.Rooms.{Rooms}
use Rattle.net_lawful.specs.Frame.{HaveRooms}
use Rattle.net_lawful.specs.Rooms.{extent_at, extent_of, has_room, is_extent, is_room_of}

pub no_rooms : (rooms : Rooms) → rooms.extents.entries ≡ [] → (r : Room) (n : ℕ) → has_room rooms r n ≡ false
unfolding has_room
no_rooms rooms h r n = ap (λ es. is_extent (lookup (is_at (nat_cmp r.first)) es) r.length n) h

-- ---- one memory after the other

module _ (ms : List DesignMemory) (i : ℕ) (a : DesignMemory) (total : ℕ) (is : a ≡ get_or ms i a)
    (so_far : total ≡ sum_by room_length (take i ms)) where
  pub words_more : i < length ms → total + room_length (get_or ms i a) ≡ sum_by room_length (take (i + 1) ms)
  words_more l = ap (λ n. n + room_length (get_or ms i a)) so_far ∙ sym (sum_by_more room_length ms i a l)

  pub room_more : a.room.first ≡ total
      → ((j : ℕ) (x : DesignMemory) → j < i → slice_get ms j ≡ Some x → x.room.first ≡ sum_by room_length (take j ms))
      → (j : ℕ) (x : DesignMemory) → j < i + 1 → slice_get ms j ≡ Some x → x.room.first ≡ sum_by room_length (take j ms)
  room_more first each j x l at = ⊎_elim
      (λ (before : j < i). each j x before at)
      (λ (from : i ≤ j).
      let here : i ≡ j = omega arith in
      let at_i : slice_get ms i ≡ Some x = subst (λ n. slice_get ms n ≡ Some x) (sym here) at in
      let same : a ≡ x = is ∙ get_or_from_slice_get ms i x a at_i in
      ap (λ (y : DesignMemory). y.room.first) (sym same) ∙ first ∙ so_far ∙ ap (λ n. sum_by room_length (take n ms)) here)
      (cases_lt j i)

module _ (ms : List DesignMemory) (rooms : HaveRooms ms) (some : All (λ (a : DesignMemory). 1 ≤ a.room.length) ms)
    (i : ℕ) (a : DesignMemory) (here : i < length ms) (is : a ≡ get_or ms i a) where
  first_at : (j : ℕ) (x : DesignMemory) → j < length ms → get_or ms j x ≡ x → x.room.first ≡ sum_by room_length (take j ms)
  first_at j x l e = rooms j x (slice_get-at ms j x l e)

  -- no memory before begins there
  none_before : (r : Room) (n : ℕ) → a.room.first ≡ r.first → list_any (is_room_of r n) (take i ms) ≡ false
  none_before r n same = false_from_ne_true (list_any (is_room_of r n) (take i ms)) (λ t.
      let found = Any-from_list_any (is_room_of r n) (take i ms) t in
      let j : ℕ = found.0 in
      let x : DesignMemory = found.1 in
      let within : j < length (take i ms) = found.2 in
      let long : length (take i ms) ≡ i = length-take-le i ms (omega arith) in
      let before : j < i = omega (arith, within, long) in
      let at : get_or ms j x ≡ x = sym (get_or-take i ms j x before) ∙ found.3 in
      let meets = and_parts _ _ found.4 in
      let equal : x.room.first ≡ r.first = eqb-true _ _ meets.0 in
      let x_first : x.room.first ≡ sum_by room_length (take j ms) = first_at j x (omega arith) at in
      let a_first : a.room.first ≡ sum_by room_length (take i ms) = first_at i a here (sym is) in
      let grows : sum_by room_length (take j (take i ms)) + room_length (get_or (take i ms) j x) ≤ sum_by room_length (take i ms) =
      sum_by_more_le room_length (take i ms) j x within in
      let front : sum_by room_length (take j (take i ms)) ≡ sum_by room_length (take j ms) = ap (sum_by room_length) (take-take j i ms (omega arith)) in
      let size : room_length (get_or (take i ms) j x) ≡ room_length (get_or ms j x) = ap room_length (get_or-take i ms j x before) in
      let one : 1 ≤ room_length (get_or ms j x) = some j x (omega arith) in
      omega (arith, equal, same, x_first, a_first, grows, front, size, one))

  case : (b : Bool) (old before : Bool) (r : Room) (n : ℕ) → old ≡ before → (b ≡ true → before ≡ false)
      → (if b then (a.room.length == r.length) && nat_le n a.width else old)
      ≡ (before || (b && ((a.room.length == r.length) && nat_le n a.width)))
  case true old before r n same none = sym (ap (λ c. c || ((a.room.length == r.length) && nat_le n a.width)) (none refl))
  case false old before r n same none = same ∙ or_none before

  pub one_more_room : (old new : Rooms) → ((r : Room) (n : ℕ) → has_room old r n ≡ list_any (is_room_of r n) (take i ms))
      → ((first : ℕ) → extent_at new first ≡ (if a.room.first == first then Some (extent_of a) else extent_at old first))
      → (r : Room) (n : ℕ) → has_room new r n ≡ list_any (is_room_of r n) (take (i + 1) ms)
  unfolding has_room
  one_more_room old new so_far grew r n =
      ap (λ e. is_extent e r.length n) (grew r.first)
      ∙ chosen (a.room.first == r.first)
      ∙ case (a.room.first == r.first) (has_room old r n) (list_any (is_room_of r n) (take i ms)) r n (so_far r n)
      (λ t. none_before r n (eqb-true _ _ t))
      ∙ ap (λ x. list_any (is_room_of r n) (take i ms) || is_room_of r n x) is
      ∙ sym (list_any_more (is_room_of r n) ms i a here)
    where
      chosen : (b : Bool) → is_extent (if b then Some (extent_of a) else extent_at old r.first) r.length n
          ≡ (if b then (a.room.length == r.length) && nat_le n a.width else is_extent (extent_at old r.first) r.length n)
      chosen true = refl
      chosen false = refl
