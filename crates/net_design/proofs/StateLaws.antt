-- The initial state is a state, and so is the next state of a state.
use Rattle.std.proofs.Common.{◌≡◌, ◌≢◌, ℕ, zero, suc, ◌+◌, ◌-◌, ◌*◌, ◌/◌, ◌%◌, ◌^◌, ◌<◌, ◌≤◌, ◌==◌, ◌&&◌, min, nat_lt, Bool, true}
use Rattle.std.proofs.Common.{false, IsTrue}
use Rattle.std.proofs.Common.{List, [], ◌∷◌, ◌++◌, map, take, replicate, length, slice_index, slice_set, slice_get}
use Rattle.std.proofs.Common.{Some}
use Rattle.std.proofs.Common.{if◌then◌else◌, ⊎_elim, refl, ap, sym, subst, ◌∙◌, arith}
use Rattle.std.specs.Int.{bit_at}
use Rattle.std.specs.List.{AllByRecursion, Contains, list_any, flat_map, enumerate_from, sum_by}
use Rattle.std.proofs.lemmas.Bool.{cases_lt, or_from, leb-true, eqb-true, ltb-true, false_from_ne_true, and_parts, or_parts}
use Rattle.std.proofs.lemmas.List.{get_or-replicate, get_or_past, get_or-set_same, get_or-set_other, length-replicate, length-set}
use Rattle.std.proofs.lemmas.List.Folds.{Any-from_list_any, list_any-append}
use Rattle.std.proofs.lemmas.List.Sums.{sum_by-cons}
use Rattle.std.proofs.lemmas.Option.{get_or_from_slice_get, slice_get_within}
use Rattle.std.proofs.lemmas.Nat.{pow_pos, mod_below}
use Rattle.std.proofs.lemmas.Nat.Bits.{bit_at_above}
use Rattle.vidi_bits.proofs.Bools.{not_both}
use Rattle.vidi_bits.proofs.Lists.{some_same}
use Rattle.vidi_bits.proofs.BitLemmas.{fits_by_bits, put_fits}
use Rattle.net_design.specs.declared.rhs.Room.{Room}
use Rattle.net_design.specs.declared.act.Place.{Place}
use Rattle.net_design.specs.declared.act.Place.TheVariants.{Bits, BitsFrom, Word, WordFrom}
use Rattle.net_design.specs.declared.act.Act.{Act, Set, Read, Branch', Row_of-Act, end_of-Act, more_of-Act, Row_of-Guard, end_of-Guard}
use Rattle.net_design.specs.declared.act.Act.{more_of-Guard}
use Rattle.net_design.specs.declared.act.Code.{Code}
use Rattle.net_design.specs.declared.act.Timing.{Timing}
use Rattle.net_design.specs.declared.act.Timing.TheVariants.{Nonblocking}
use Rattle.net_design.specs.declared.design.Net.{Net}
use Rattle.net_design.specs.declared.design.Register.{Register}
use Rattle.net_design.specs.declared.design.DesignMemory.{DesignMemory}
use Rattle.net_design.specs.declared.design.Design.{Design}
use Rattle.net_design.specs.declared.values.Target.{Target}
use Rattle.net_design.specs.declared.values.Target.TheVariants.{Net as NetTarget, Word as WordTarget}
use Rattle.net_design.specs.declared.values.Update.{Update}
use Rattle.net_design.specs.declared.values.Values.{Values}
use Rattle.vidi_bits.specs.Number.{has, put_of}
use Rattle.net_design.specs.Value.{value}
use Rattle.net_design.specs.Sized.{IsPlace, IsAct, IsGuardRow, IsActRow}
use Rattle.net_design.specs.Updates.{written_to, apply, place_updates, target_width, target_updates, seen, updates, guard_row, act_row}
use Rattle.net_design.specs.Updates.{block_updates}
use Rattle.net_design.specs.Settled.{net_width, held, word_count, FitNets, clocked, next, initial_number, initial, room_length}
use Rattle.net_design.specs.Lawful.{IsLawful, IsClocked, IsRegister, IsInRange, IsState, is_span, is_room}
use Rattle.net_design.proofs.LawfulCode.{net_width_le, slice_get-at}
use Rattle.net_design.proofs.FrameLaws.{touched, touches_at, block_touch, applied_stays, set_past, same_or_other}

-- ---- bits that the state holds
held_below : (d : Design) → IsLawful d → (m k : ℕ) → held d m k ≡ true → k < net_width d m
held_below d law m k h =
    let found = Any-from_list_any _ d.registers h in
    let r : Register = found.1 in
    let t = and_parts _ _ found.4 in
    let here : r.net ≡ m = eqb-true _ _ t.0 in
    let one : bit_at r.held k ≡ 1 = eqb-true _ _ t.1 in
    let register : IsRegister d r = subst (IsRegister d) found.3 (law.registers found.0 r found.2) in
    let below : r.held < 2 ^ net_width d m = subst (λ n. r.held < 2 ^ net_width d n) here register.held in
    ⊎_elim
    (λ (l : k < net_width d m). l)
    (λ (g : net_width d m ≤ k). let z : bit_at r.held k ≡ 0 = bit_at_above r.held (net_width d m) k below g in absurd (omega arith))
    (cases_lt k (net_width d m))

unheld_above : (d : Design) → IsLawful d → (m k : ℕ) → net_width d m ≤ k → held d m k ≡ false
unheld_above d law m k g = false_from_ne_true _ (λ t. let l : k < net_width d m = held_below d law m k t in omega arith)

-- numbers without bits that the state doesn't hold fit their nets
state_fits : (d : Design) → IsLawful d → (numbers : List ℕ) → length numbers ≡ length d.nets
    → ((m k : ℕ) → held d m k ≡ false → bit_at (slice_index numbers m) k ≡ 0) → FitNets d numbers
state_fits d law numbers long rest = record {
  long = long;
  each = λ m. fits_by_bits (slice_index numbers m) (net_width d m) (λ k g. rest m k (unheld_above d law m k g));
}

-- ---- the initial state
either_number : (b c : Bool) (x y k : ℕ) → ((b && c) ≡ false → b ≡ true → bit_at x k ≡ 0) → (b && c) ≡ false → bit_at y k ≡ 0
    → bit_at (if b then x else y) k ≡ 0
either_number true c x y k f h g = f h refl
either_number false c x y k f h g = g

and_true : (b c : Bool) → (b && c) ≡ false → b ≡ true → c ≡ false
and_true true c h t = h
and_true false c h t = absurd cc

initial_rest : (rs : List Register) → ((i : ℕ) (r : Register) → slice_get rs i ≡ Some r → (k : ℕ) → has r.held k ≡ false
    → bit_at r.initial k ≡ 0) → (m k : ℕ)
    → list_any (λ (r : Register). (r.net == m) && has r.held k) rs ≡ false → bit_at (initial_number rs m) k ≡ 0
initial_rest [] all m k h = bit_at_above 0 0 k (omega arith) (omega arith)
initial_rest (r ∷ rest) all m k h =
    let parts = or_parts ((r.net == m) && has r.held k) _ h in
    either_number (r.net == m) (has r.held k) r.initial (initial_number rest m) k
    (λ u t. all zero r refl k (and_true (r.net == m) (has r.held k) u t))
    parts.0
    (initial_rest rest (λ i x e. all (suc i) x e) m k parts.1)

abbrev numbers_from : List Register → ℕ → List Net → List ℕ
numbers_from rs start ns = map (λ (n : ℕ × Net). initial_number rs n.0) (enumerate_from start ns)

numbers_long : (rs : List Register) (start : ℕ) (ns : List Net) → length (numbers_from rs start ns) ≡ length ns
numbers_long rs start [] = refl
numbers_long rs start (n ∷ ns) = ap suc (numbers_long rs (start + 1) ns)

number_at : (rs : List Register) (start : ℕ) (ns : List Net) (m : ℕ) → m < length ns
    → slice_index (numbers_from rs start ns) m ≡ initial_number rs (start + m)
number_at rs start [] m l = absurd (omega arith)
number_at rs start (n ∷ ns) zero l = ap (initial_number rs) (omega arith)
number_at rs start (n ∷ ns) (suc m) l = number_at rs (start + 1) ns m (omega arith) ∙ ap (initial_number rs) (omega arith)

zero_bits : (k : ℕ) → bit_at 0 k ≡ 0
zero_bits k = bit_at_above 0 0 k (omega arith) (omega arith)

register_at : (d : Design) → IsLawful d → (i : ℕ) (r : Register) → slice_get d.registers i ≡ Some r → IsRegister d r
register_at d law i r e =
    subst (IsRegister d) (get_or_from_slice_get d.registers i r r e) (law.registers i r (slice_get_within d.registers i r e))

initial_bits : (d : Design) → IsLawful d → (m k : ℕ) → held d m k ≡ false → bit_at (slice_index (initial d).nets m) k ≡ 0
initial_bits d law m k h = ⊎_elim
    (λ (l : m < length d.nets).
    ap (λ n. bit_at n k) (number_at d.registers 0 d.nets m l ∙ ap (initial_number d.registers) (omega arith))
    ∙ initial_rest d.registers (λ i r e. (register_at d law i r e).initial) m k h)
    (λ (g : length d.nets ≤ m).
    let past : slice_index (initial d).nets m ≡ 0 = get_or_past (initial d).nets m 0
    (subst (λ n. n ≤ m) (sym (numbers_long d.registers 0 d.nets)) g) in
    ap (λ n. bit_at n k) past ∙ zero_bits k)
    (cases_lt m (length d.nets))

no_word : (n i : ℕ) → slice_index (replicate n 0) i ≡ 0
no_word n i = ⊎_elim
    (λ (l : i < n). get_or-replicate n i 0 0 l)
    (λ (g : n ≤ i). get_or_past (replicate n 0) i 0 (subst (λ k. k ≤ i) (sym (length-replicate n 0)) g))
    (cases_lt i n)

pub initial_state : (d : Design) → IsLawful d → IsState d (initial d)
initial_state d law = record {
  nets = state_fits d law (initial d).nets (numbers_long d.registers 0 d.nets) (initial_bits d law);
  rest = initial_bits d law;
  words = length-replicate (word_count d) 0;
  fit = λ a i c l. subst (λ n. n < 2 ^ a.width) (sym (no_word (word_count d) (a.room.first + i))) (pow_pos a.width);
}

-- ---- updates keep lengths and 128 bits
pub written_long : (t : Target) (u : Update) (v : Values)
    → (length (written_to t u v).nets ≡ length v.nets) × (length (written_to t u v).words ≡ length v.words)
written_long (NetTarget m) u v = (length-set v.nets m (put_of (slice_index v.nets m) u.low u.width u.number), refl)
written_long (WordTarget i) u v = (refl, length-set v.words i (put_of (slice_index v.words i) u.low u.width u.number))

pub applied_long : (us : List Update) (v : Values) → (length (apply us v).nets ≡ length v.nets) ×
    (length (apply us v).words ≡ length v.words)
applied_long [] v = (refl, refl)
applied_long (u ∷ us) v =
    let first = written_long u.target u v in
    let rest = applied_long us (written_to u.target u v) in
    (rest.0 ∙ first.0, rest.1 ∙ first.1)

abbrev pub AreNarrow : List ℕ → Type 0
AreNarrow xs = (m : ℕ) → slice_index xs m < 2 ^ 128

pub set_narrow : (xs : List ℕ) (n low w y : ℕ) → AreNarrow xs → AreNarrow (slice_set xs n (put_of (slice_index xs n) low w y))
set_narrow xs n low w y h m = ⊎_elim
    (λ (e : n ≡ m). ⊎_elim
    (λ (there : n < length xs). subst (λ k. slice_index (slice_set xs n (put_of (slice_index xs n) low w y)) k < 2 ^ 128) e
    (subst (λ z. z < 2 ^ 128) (sym (get_or-set_same xs n (put_of (slice_index xs n) low w y) 0 there))
    (mod_below ((slice_index xs n / 2 ^ (low + w) * 2 ^ w + y % 2 ^ w) * 2 ^ low + slice_index xs n % 2 ^ low) (2 ^ 128) (pow_pos 128))))
    (λ (past : length xs ≤ n). subst (λ zs. slice_index zs m < 2 ^ 128) (sym (set_past xs n (put_of (slice_index xs n) low w y) past))
    (h m))
    (cases_lt n (length xs)))
    (λ (d : m ≢ n). subst (λ z. z < 2 ^ 128) (sym (get_or-set_other xs n m (put_of (slice_index xs n) low w y) 0 d)) (h m))
    (same_or_other n m)

written_narrow : (t : Target) (u : Update) (v : Values) → AreNarrow v.nets → AreNarrow (written_to t u v).nets
written_narrow (NetTarget m) u v h = set_narrow v.nets m u.low u.width u.number h
written_narrow (WordTarget i) u v h = h

pub nets_narrow : (us : List Update) (v : Values) → AreNarrow v.nets → AreNarrow (apply us v).nets
nets_narrow [] v h = h
nets_narrow (u ∷ us) v h = nets_narrow us (written_to u.target u v) (written_narrow u.target u v h)

-- ---- updates of words
-- bits below n are in the words of each memory that has the word
abbrev IsWithin : Design → Target → ℕ → Type 0
IsWithin d (NetTarget m) n = Unit {0}
IsWithin d (WordTarget j) n = (a : DesignMemory) (i : ℕ) → Contains d.memories a → i < a.room.length → a.room.first + i ≡ j → n ≤ a.width

abbrev AreWithin : Design → List Update → Type 0
AreWithin d [] = Unit {0}
AreWithin d (u ∷ us) = IsWithin d u.target (u.low + u.width) × AreWithin d us

abbrev WordsFit : Design → List ℕ → Type 0
WordsFit d ws = (a : DesignMemory) (i : ℕ) → Contains d.memories a → i < a.room.length → slice_index ws (a.room.first + i) < 2 ^ a.width

-- the words before memory q have those of memory p, where p comes first
before : (ms : List DesignMemory) (p q : ℕ) (a : DesignMemory) → slice_get ms p ≡ Some a → p < q
    → sum_by room_length (take p ms) + room_length a ≤ sum_by room_length (take q ms)
before [] p q a h l = absurd cc
before (m ∷ ms) zero zero a h l = absurd (omega arith)
before (m ∷ ms) zero (suc q) a h l =
    let e : room_length m ≡ room_length a = ap room_length (some_same m a h) in
    let c = sum_by-cons room_length m (take q ms) in
    omega arith
before (m ∷ ms) (suc p) zero a h l = absurd (omega arith)
before (m ∷ ms) (suc p) (suc q) a h l =
    let i = before ms p q a h (omega arith) in
    let c = sum_by-cons room_length m (take p ms) in
    let e = sum_by-cons room_length m (take q ms) in
    omega arith

-- two memories that have one word are the same
one_memory : (d : Design) → IsLawful d → (p q : ℕ) (a b : DesignMemory) → slice_get d.memories p ≡ Some a → slice_get d.memories q ≡ Some b
    → (x y : ℕ) → x < room_length a → y < room_length b → a.room.first + x ≡ b.room.first + y → a ≡ b
one_memory d law p q a b ha hb x y lx ly e =
    let fa = law.rooms p a ha in
    let fb = law.rooms q b hb in
    ⊎_elim
    (λ (l : p < q). let t = before d.memories p q a ha l in absurd (omega arith))
    (λ (g : q ≤ p). ⊎_elim
    (λ (l : q < p). let t = before d.memories q p b hb l in absurd (omega arith))
    (λ (h : p ≤ q). let same : p ≡ q = omega arith in some_same a b (sym ha ∙ ap (slice_get d.memories) same ∙ hb))
    (cases_lt q p))
    (cases_lt p q)

room_within : (d : Design) → IsLawful d → (r : Room) (n : ℕ) → IsTrue (is_room d r n) → (x m : ℕ) → x < r.length → m ≤ n
    → IsWithin d (WordTarget (r.first + x)) m
room_within d law r n h x m lx lm a i c l e =
    let found = Any-from_list_any _ d.memories h in
    let b : DesignMemory = found.1 in
    let hb = slice_get-at d.memories found.0 b found.2 found.3 in
    let ha = slice_get-at d.memories c.0 a c.1 c.2 in
    let t = and_parts _ _ found.4 in
    let u = and_parts _ _ t.1 in
    let first : b.room.first ≡ r.first = eqb-true _ _ t.0 in
    let size : b.room.length ≡ r.length = eqb-true _ _ u.0 in
    let wide : n ≤ b.width = leb-true _ _ u.1 in
    let same = one_memory d law c.0 found.0 a b ha hb i x l (omega arith) (omega arith) in
    let width : a.width ≡ b.width = ap (λ (y : DesignMemory). y.width) same in
    omega arith

module _ (d : Design) (law : IsLawful d) where
  within_both : (us ws : List Update) → AreWithin d us → AreWithin d ws → AreWithin d (us ++ ws)
  within_both [] ws h k = k
  within_both (u ∷ us) ws h k = (h.0, within_both us ws h.1 k)

  if_within : (b : Bool) (us ws : List Update) → (b ≡ true → AreWithin d us) → AreWithin d ws → AreWithin d (if b then us else ws)
  if_within true us ws h k = h refl
  if_within false us ws h k = k

  if_none : (b : Bool) (us : List Update) → AreWithin d us → AreWithin d (if b then [] else us)
  if_none true us h = tt
  if_none false us h = h

  abbrev IsIn : Place → Type 0
  IsIn p = IsPlace (λ s. IsTrue (is_span d s)) (λ r n. IsTrue (is_room d r n)) p

  place_within : (p : Place) → IsIn p → (x : ℕ) (v : Values) → AreWithin d (place_updates p x v)
  place_within (Bits s n) h x v = if_none (s.width == 0) _ (tt, tt)
  place_within (BitsFrom s i w) h x v = if_within (nat_lt (value i v) s.width) _ [] (λ t. (tt, tt)) tt
  place_within (Word r i low w n) h x v =
      if_within (nat_lt (value i v) r.length) _ []
      (λ t. if_none (w == 0) _ (room_within d law r (low + w) h.2 (value i v) (low + w) (ltb-true _ _ t) (omega arith), tt)) tt
  place_within (WordFrom r i size j w) h x v =
      if_within (nat_lt (value i v) r.length) _ []
      (λ t. if_within (nat_lt (value j v) size) _ []
      (λ u. let l : value j v < size = ltb-true _ _ u in
      (room_within d law r size h.2 (value i v) (0 + value j v + min w (size - value j v)) (ltb-true _ _ t) (omega arith), tt)) tt) tt

  target_within : (ps : List Place) → AllByRecursion IsIn ps → (x : ℕ) (v : Values) → AreWithin d (target_updates ps x v)
  target_within [] h x v = tt
  target_within (p ∷ ps) h x v = within_both _ _ (place_within p h.0 (x / 2 ^ target_width ps) v) (target_within ps h.1 x v)

  mutual
    act_within : (t : Timing) (a : Act) → IsAct (λ s. IsTrue (is_span d s)) (λ r n. IsTrue (is_room d r n)) a → (v : Values)
        → AreWithin d (updates t a v)
    act_within t (Set target e) h v = target_within target h.1 (value e v) v
    act_within t (Read e) h v = tt
    act_within t (Branch' n guards m otherwise) h v = guards_within t guards h.0 (act_row t otherwise v) v (row_within t otherwise h.1 v)

    guards_within : {n : _} → (t : Timing) (row : Row_of-Guard n) → IsGuardRow (λ s. IsTrue (is_span d s))
        (λ r n. IsTrue (is_room d r n)) row
        → (us : List Update) (v : Values) → AreWithin d us → AreWithin d (guard_row t row us v)
    guards_within t end_of-Guard h us v k = k
    guards_within t (more_of-Guard c l body rest) h us v k =
        if_within (value c v == 0) (guard_row t rest us v) (act_row t body v) (λ u. guards_within t rest h.1 us v k)
        (row_within t body h.0.1 v)

    row_within : {n : _} → (t : Timing) (row : Row_of-Act n) → IsActRow (λ s. IsTrue (is_span d s)) (λ r n. IsTrue (is_room d r n)) row
        → (v : Values) → AreWithin d (act_row t row v)
    row_within t end_of-Act h v = tt
    row_within t (more_of-Act a rest) h v =
        within_both (updates t a v) (act_row t rest (seen t (updates t a v) v)) (act_within t a h.0 v)
        (row_within t rest h.1 (seen t (updates t a v) v))

  block_within : (t : Timing) (acts : List Act) → IsInRange d acts → (v : Values) → AreWithin d (block_updates t acts v)
  block_within t [] h v = tt
  block_within t (a ∷ rest) h v =
      within_both (updates t a v) (block_updates t rest (seen t (updates t a v) v)) (act_within t a h.0 v)
      (block_within t rest h.1 (seen t (updates t a v) v))

  written_fit : (t : Target) (u : Update) (v : Values) → IsWithin d t (u.low + u.width) → WordsFit d v.words
      → WordsFit d (written_to t u v).words
  written_fit (NetTarget m) u v h k a i c l = k a i c l
  written_fit (WordTarget j) u v h k a i c l =
      let x : ℕ = put_of (slice_index v.words j) u.low u.width u.number in
      ⊎_elim
      (λ (e : j ≡ a.room.first + i). ⊎_elim
      (λ (there : j < length v.words). subst (λ n. slice_index (slice_set v.words j x) n < 2 ^ a.width) e
      (subst (λ z. z < 2 ^ a.width) (sym (get_or-set_same v.words j x 0 there))
      (put_fits (slice_index v.words j) u.low u.width u.number a.width
      (subst (λ n. slice_index v.words n < 2 ^ a.width) (sym e) (k a i c l)) (h a i c l (sym e)))))
      (λ (past : length v.words ≤ j). subst (λ zs. slice_index zs (a.room.first + i) < 2 ^ a.width) (sym (set_past v.words j x past))
      (k a i c l))
      (cases_lt j (length v.words)))
      (λ (o : a.room.first + i ≢ j). subst (λ z. z < 2 ^ a.width) (sym (get_or-set_other v.words j (a.room.first + i) x 0 o)) (k a i c l))
      (same_or_other j (a.room.first + i))

  applied_fit : (us : List Update) (v : Values) → AreWithin d us → WordsFit d v.words → WordsFit d (apply us v).words
  applied_fit [] v h k = k
  applied_fit (u ∷ us) v h k = applied_fit us (written_to u.target u v) h.1 (written_fit u.target u v h.0 k)

  -- ---- all clocked blocks
  abbrev AllClocked : List Code → Type 0
  AllClocked bs = (i : ℕ) (c : Code) → slice_get bs i ≡ Some c → IsClocked d c

  all_clocked : AllClocked d.blocks
  all_clocked i c h = subst (IsClocked d) (get_or_from_slice_get d.blocks i c c h) (law.blocks i c (slice_get_within d.blocks i c h))

  abbrev all_updates : List Code → Values → List Update
  all_updates bs v = flat_map (λ (c : Code). block_updates Nonblocking c.acts v) bs

  all_within : (bs : List Code) → AllClocked bs → (v : Values) → AreWithin d (all_updates bs v)
  all_within [] h v = tt
  all_within (c ∷ bs) h v =
      within_both (block_updates Nonblocking c.acts v) (all_updates bs v) (block_within Nonblocking c.acts (h zero c refl).code.acts v)
      (all_within bs (λ i x e. h (suc i) x e) v)

  untouched : (c : Code) → IsClocked d c → (v : Values) (m k : ℕ) → held d m k ≡ false
      → touched (block_updates Nonblocking c.acts v) m k ≡ false
  untouched c h v m k e =
      block_touch Nonblocking c.acts v m k (false_from_ne_true _ (λ t. not_both _ (h.held m k (h.code.bits.writes m k ∙ t)) e))

  all_untouched : (bs : List Code) → AllClocked bs → (v : Values) (m k : ℕ) → held d m k ≡ false → touched (all_updates bs v) m k ≡ false
  all_untouched [] h v m k e = refl
  all_untouched (c ∷ bs) h v m k e =
      list_any-append (λ (u : Update). touches_at u.target u m k) (block_updates Nonblocking c.acts v) (all_updates bs v)
      ∙ or_from _ _ (untouched c (h zero c refl) v m k e) (all_untouched bs (λ i x r. h (suc i) x r) v m k e)

  narrow_state : (s : Values) → IsState d s → AreNarrow s.nets
  narrow_state s state m =
      let l = state.nets.each m in
      let w = net_width_le d law m in
      fits_by_bits (slice_index s.nets m) 128 (λ k g. bit_at_above (slice_index s.nets m) (net_width d m) k l (omega arith))

  next_bits : (v s : Values) → IsState d s → (m k : ℕ) → held d m k ≡ false → bit_at (slice_index (next d v s).nets m) k ≡ 0
  next_bits v s state m k e =
      let us : List Update = clocked d v in
      ⊎_elim
      (λ (l : k < 128). applied_stays us s m k l (all_untouched d.blocks all_clocked v m k e) ∙ state.rest m k e)
      (λ (g : 128 ≤ k). bit_at_above (slice_index (apply us s).nets m) 128 k (nets_narrow us s (narrow_state s state) m) g)
      (cases_lt k 128)

  pub next_state : (v s : Values) → IsState d s → IsState d (next d v s)
  next_state v s state =
      let us : List Update = clocked d v in
      let long = applied_long us s in
      record {
        nets = state_fits d law (next d v s).nets (long.0 ∙ state.nets.long) (next_bits v s state);
        rest = next_bits v s state;
        words = long.1 ∙ state.words;
        fit = applied_fit us s (all_within d.blocks all_clocked v) state.fit;
      }
