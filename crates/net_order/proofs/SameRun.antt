-- Blocking code gives the same bits where it reads the same bits.
use Rattle.std.proofs.Common.{◌≡◌, ℕ, ◌+◌, ◌-◌, ◌*◌, ◌/◌, ◌%◌, ◌^◌, ◌<◌, ◌≤◌, ◌==◌, ◌&&◌, ◌||◌, not, Bool, true, false, nat_lt}
use Rattle.std.proofs.Common.{List, [], ◌∷◌, ◌++◌, ◌⊎◌, inl, inr, length, slice_index, slice_set, if◌then◌else◌, ⊎_elim, refl, ap, sym}
use Rattle.std.proofs.Common.{subst}
use Rattle.std.proofs.Common.{◌∙◌, arith}
use Rattle.std.specs.Int.{bit_at}
use Rattle.std.proofs.lemmas.Bool.{cases_lt, eqb-true, eq-eqb, leb-true, le-leb, ltb-true, lt-ltb, or_right, or_cases, and_parts, and_from}
use Rattle.std.proofs.lemmas.Bool.{or_left}
use Rattle.std.proofs.lemmas.List.{get_or_past, get_or-set_same}
use Rattle.std.proofs.lemmas.List.Folds.{list_any-append}
use Rattle.std.proofs.lemmas.Nat.{pow_pos, mod_below}
use Rattle.std.proofs.lemmas.Nat.Bits.{same_from_bits_below, bit_at_above}
use Rattle.vidi_bits.proofs.BitLemmas.{bit_at-part, bit_at-put_inside}
use Rattle.net_design.specs.declared.rhs.Span.{Span}
use Rattle.net_design.specs.declared.rhs.Rhs.{Rhs, Number, Bits, Word', Unary', Binary', Choose', Join', Repeat', Select'}
use Rattle.net_design.specs.declared.act.Place.{Place}
use Rattle.net_design.specs.declared.act.Place.TheVariants.{Bits as PlaceBits, BitsFrom, Word as PlaceWord, WordFrom}
use Rattle.net_design.specs.declared.act.Act.{Act, Set, Read, Branch', Row_of-Act, end_of-Act, more_of-Act, Row_of-Guard, end_of-Guard}
use Rattle.net_design.specs.declared.act.Act.{more_of-Guard}
use Rattle.net_design.specs.declared.act.Timing.TheVariants.{Blocking}
use Rattle.net_design.specs.declared.values.Target.{Target}
use Rattle.net_design.specs.declared.values.Target.TheVariants.{Net, Word as WordTarget}
use Rattle.net_design.specs.declared.values.Update.{Update}
use Rattle.net_design.specs.declared.values.Values.{Values}
use Rattle.vidi_bits.specs.Number.{part_of, put_of, repeated}
use Rattle.vidi_bits.specs.Operators.{unary_number, binary_number}
use Rattle.net_design.specs.Value.{word_at, value}
use Rattle.net_design.specs.Updates.{written_to, apply, update, bit_updates, part_updates, word_updates, place_updates, target_width}
use Rattle.net_design.specs.Updates.{target_updates, updates, guard_row, act_row, block_updates, run}
use Rattle.net_design.specs.Bits.{BitSet, no_bits, bits_of, reads, place_reads, target_reads, place_adds, target_adds, adds, adds_guards}
use Rattle.net_design.specs.Bits.{adds_row, block_adds, open_reads, open_reads_guards, open_reads_row, block_open_reads}
use Rattle.net_design.specs.Bits.{block_reads}
use Rattle.net_design.proofs.FrameLaws.{touches_at, touched, written_stays}
use Rattle.net_design.proofs.StateLaws.{written_long, applied_long, AreNarrow, nets_narrow}

-- ---- tests

opened : (r known p : Bool) → ((r && not known) ≡ true → p ≡ true) → (known ≡ true → p ≡ true) → r ≡ true → p ≡ true
opened r true p f g h = g refl
opened true false p f g h = f refl
opened false false p f g h = absurd cc

-- ---- values with the same bits of a set
abbrev pub bit : Values → ℕ → ℕ → ℕ
bit v m k = bit_at (slice_index v.nets m) k

abbrev pub Agree : BitSet → Values → Values → Type 0
Agree p v u = (m k : ℕ) → p m k ≡ true → bit v m k ≡ bit u m k

abbrev pub Within : BitSet → BitSet → Type 0
Within r p = (m k : ℕ) → r m k ≡ true → p m k ≡ true

abbrev pub joint : BitSet → BitSet → BitSet
joint p q m k = p m k || q m k

pub record Same (p : BitSet) (v u : Values) : Type 0 where
  pub bits : Agree p v u
  pub words : v.words ≡ u.words
  pub long : length v.nets ≡ length u.nets
  pub narrow_v : AreNarrow v.nets
  pub narrow_u : AreNarrow u.nets

left_of : (r s p : BitSet) → Within (joint r s) p → Within r p
left_of r s p w m k t = w m k (or_left (r m k) (s m k) t)

right_of : (r s p : BitSet) → Within (joint r s) p → Within s p
right_of r s p w m k t = w m k (or_right (r m k) (s m k) t)

-- ---- expressions
part_same : (x y low w : ℕ) → ((i : ℕ) → i < w → bit_at x (low + i) ≡ bit_at y (low + i)) → part_of x low w ≡ part_of y low w
part_same x y low w h =
    same_from_bits_below w _ _ (mod_below (x / 2 ^ low) (2 ^ w) (pow_pos w)) (mod_below (y / 2 ^ low) (2 ^ w) (pow_pos w))
    (λ i l. bit_at-part x low w i l ∙ h i l ∙ sym (bit_at-part y low w i l))

in_span : (s : Span) (i : ℕ) → i < s.width → bits_of s s.net (s.low + i) ≡ true
in_span s i l =
    and_from _ _ (eq-eqb s.net s.net refl) (and_from _ _ (le-leb s.low (s.low + i) (omega arith))
    (lt-ltb (s.low + i) (s.low + s.width) (omega arith)))

module _ (p : BitSet) (v u : Values) (h : Same p v u) where
  pub value_same : (e : Rhs) → Within (reads e) p → value e v ≡ value e u
  value_same (Number n) w = refl
  value_same (Bits s) w =
      part_same (slice_index v.nets s.net) (slice_index u.nets s.net) s.low s.width
      (λ i l. h.bits s.net (s.low + i) (w s.net (s.low + i) (in_span s i l)))
  value_same (Word' r q i) w =
      ap (λ n. word_at r n v) (value_same i w)
      ∙ ap (λ (ws : List ℕ). if nat_lt (value i u) r.length then slice_index ws (r.first + value i u) else 0) h.words
  value_same (Unary' op q a n) w = ap (λ x. unary_number op x n) (value_same a w)
  value_same (Binary' op q a r b n) w =
      ap (λ x. binary_number op x (value b v) n) (value_same a (left_of (reads a) (reads b) p w))
      ∙ ap (λ x. binary_number op (value a u) x n) (value_same b (right_of (reads a) (reads b) p w))
  value_same (Choose' q c r a s b) w =
      let rest = right_of (reads c) (joint (reads a) (reads b)) p w in
      ap (λ x. if x == 0 then value b v else value a v) (value_same c (left_of (reads c) (joint (reads a) (reads b)) p w))
      ∙ ap (λ x. if value c u == 0 then x else value a v) (value_same b (right_of (reads a) (reads b) p rest))
      ∙ ap (λ x. if value c u == 0 then value b u else x) (value_same a (left_of (reads a) (reads b) p rest))
  value_same (Join' q high r low x y) w =
      ap (λ n. n % 2 ^ x * 2 ^ y + value low v % 2 ^ y) (value_same high (left_of (reads high) (reads low) p w))
      ∙ ap (λ n. value high u % 2 ^ x * 2 ^ y + n % 2 ^ y) (value_same low (right_of (reads high) (reads low) p w))
  value_same (Repeat' n q a k) w = ap (λ x. repeated n x k) (value_same a w)
  value_same (Select' q a r i k) w =
      ap (λ x. part_of x (value i v) k) (value_same a (left_of (reads a) (reads i) p w))
      ∙ ap (λ x. part_of (value a u) x k) (value_same i (right_of (reads a) (reads i) p w))

  place_same : (q : Place) (x : ℕ) → Within (place_reads q) p → place_updates q x v ≡ place_updates q x u
  place_same (PlaceBits s n) x w = refl
  place_same (BitsFrom s i n) x w = ap (λ k. part_updates (Net s.net) s.low s.width k n x) (value_same i w)
  place_same (PlaceWord r i low k n) x w = ap (λ j. word_updates r j (λ t. bit_updates t low k x)) (value_same i w)
  place_same (WordFrom r i size j n) x w =
      ap (λ a. word_updates r a (λ t. part_updates t 0 size (value j v) n x)) (value_same i (left_of (reads i) (reads j) p w))
      ∙ ap (λ b. word_updates r (value i u) (λ t. part_updates t 0 size b n x)) (value_same j (right_of (reads i) (reads j) p w))

  target_same : (ps : List Place) (x : ℕ) → Within (target_reads ps) p → target_updates ps x v ≡ target_updates ps x u
  target_same [] x w = refl
  target_same (q ∷ ps) x w =
      ap (λ us. us ++ target_updates ps x v) (place_same q (x / 2 ^ target_width ps) (left_of (place_reads q) (target_reads ps) p w))
      ∙ ap (λ us. place_updates q (x / 2 ^ target_width ps) u ++ us) (target_same ps x (right_of (place_reads q) (target_reads ps) p w))

-- ---- what is surely assigned is touched
touched_left : (us ws : List Update) (m k : ℕ) → touched us m k ≡ true → touched (us ++ ws) m k ≡ true
touched_left us ws m k h = list_any-append (λ (u : Update). touches_at u.target u m k) us ws ∙ or_left _ _ h

touched_right : (us ws : List Update) (m k : ℕ) → touched ws m k ≡ true → touched (us ++ ws) m k ≡ true
touched_right us ws m k h = list_any-append (λ (u : Update). touches_at u.target u m k) us ws ∙ or_right _ _ h

some_update : (b : Bool) (us : List Update) (m k : ℕ) → (b ≡ true → ⊥) → touched us m k ≡ true → touched (if b then [] else us) m k ≡ true
some_update true us m k n h = absurd (n refl)
some_update false us m k n h = h

either_touched : (b : Bool) (us ws : List Update) (m k : ℕ) → touched us m k ≡ true → touched ws m k ≡ true
    → touched (if b then us else ws) m k ≡ true
either_touched true us ws m k h g = h
either_touched false us ws m k h g = g

place_covered : (q : Place) (x : ℕ) (v : Values) (m k : ℕ) → place_adds q m k ≡ true → touched (place_updates q x v) m k ≡ true
place_covered (PlaceBits s n) x v m k h =
    let t = and_parts _ _ (and_parts _ _ h).1 in
    let from : s.low ≤ k = leb-true _ _ t.0 in
    let to : k < s.low + s.width = ltb-true _ _ t.1 in
    some_update (s.width == 0) (update (Net s.net) s.low s.width x ∷ []) m k
    (λ z. let none : s.width ≡ 0 = eqb-true _ _ z in absurd (omega arith)) (or_left _ _ h)
place_covered (BitsFrom s i w) x v m k h = absurd cc
place_covered (PlaceWord r i low w n) x v m k h = absurd cc
place_covered (WordFrom r i size j w) x v m k h = absurd cc

target_covered : (ps : List Place) (x : ℕ) (v : Values) (m k : ℕ) → target_adds ps m k ≡ true → touched (target_updates ps x v) m k ≡ true
target_covered [] x v m k h = absurd cc
target_covered (q ∷ ps) x v m k h = ⊎_elim
    (λ (t : place_adds q m k ≡ true). touched_left (place_updates q (x / 2 ^ target_width ps) v) (target_updates ps x v) m k
    (place_covered q (x / 2 ^ target_width ps) v m k t))
    (λ (t : target_adds ps m k ≡ true). touched_right (place_updates q (x / 2 ^ target_width ps) v) (target_updates ps x v) m k
    (target_covered ps x v m k t))
    (or_cases (place_adds q m k) (target_adds ps m k) h)

mutual
  act_covered : (a : Act) (v : Values) (m k : ℕ) → adds a m k ≡ true → touched (updates Blocking a v) m k ≡ true
  act_covered (Set target e) v m k h = target_covered target (value e v) v m k h
  act_covered (Read e) v m k h = absurd cc
  act_covered (Branch' n guards l otherwise) v m k h =
      let t = and_parts _ _ h in
      guards_covered guards (act_row Blocking otherwise v) v m k t.0 (row_covered otherwise v m k t.1)

  guards_covered : {n : _} → (row : Row_of-Guard n) (us : List Update) (v : Values) (m k : ℕ) → adds_guards row m k ≡ true
      → touched us m k ≡ true → touched (guard_row Blocking row us v) m k ≡ true
  guards_covered end_of-Guard us v m k h g = g
  guards_covered (more_of-Guard c l body rest) us v m k h g =
      let t = and_parts _ _ h in
      either_touched (value c v == 0) (guard_row Blocking rest us v) (act_row Blocking body v) m k (guards_covered rest us v m k t.1 g)
      (row_covered body v m k t.0)

  row_covered : {n : _} → (row : Row_of-Act n) (v : Values) (m k : ℕ) → adds_row row m k ≡ true
      → touched (act_row Blocking row v) m k ≡ true
  row_covered end_of-Act v m k h = absurd cc
  row_covered (more_of-Act a rest) v m k h = ⊎_elim
      (λ (t : adds a m k ≡ true). touched_left (updates Blocking a v) (act_row Blocking rest (apply (updates Blocking a v) v)) m k
      (act_covered a v m k t))
      (λ (t : adds_row rest m k ≡ true). touched_right (updates Blocking a v) (act_row Blocking rest (apply (updates Blocking a v) v)) m k
      (row_covered rest (apply (updates Blocking a v) v) m k t))
      (or_cases (adds a m k) (adds_row rest m k) h)

block_covered : (acts : List Act) (v : Values) (m k : ℕ) → block_adds acts m k ≡ true → touched (block_updates Blocking acts v) m k ≡ true
block_covered [] v m k h = absurd cc
block_covered (a ∷ rest) v m k h = ⊎_elim
    (λ (t : adds a m k ≡ true). touched_left (updates Blocking a v) (block_updates Blocking rest (apply (updates Blocking a v) v)) m k
    (act_covered a v m k t))
    (λ (t : block_adds rest m k ≡ true).
    touched_right (updates Blocking a v) (block_updates Blocking rest (apply (updates Blocking a v) v)) m k
    (block_covered rest (apply (updates Blocking a v) v) m k t))
    (or_cases (adds a m k) (block_adds rest m k) h)

-- ---- the same updates made of both
written_made : (target : Target) (x : Update) (v : Values) (m k : ℕ) → m < length v.nets → k < 128 → touches_at target x m k ≡ true
    → bit (written_to target x v) m k ≡ bit_at x.number (k - x.low)
written_made (Net n) x v m k there l h =
    let p = and_parts _ _ h in
    let q = and_parts _ _ p.1 in
    let e : n ≡ m = eqb-true n m p.0 in
    ap (λ j. bit_at (slice_index (slice_set v.nets j (put_of (slice_index v.nets j) x.low x.width x.number)) m) k) e
    ∙ ap (λ y. bit_at y k) (get_or-set_same v.nets m (put_of (slice_index v.nets m) x.low x.width x.number) 0 there)
    ∙ bit_at-put_inside (slice_index v.nets m) x.low x.width x.number k l (leb-true _ _ q.0) (ltb-true _ _ q.1)
written_made (WordTarget i) x v m k there l h = absurd cc

-- one update makes bits the same, where it touches them or they were the same
one_after : (b : Bool) (x : Update) (v u : Values) (m k : ℕ) → touches_at x.target x m k ≡ b → m < length v.nets → m < length u.nets
    → k < 128
    → (rest : Bool) → ((b || rest) ≡ true) ⊎ (bit v m k ≡ bit u m k)
    → (rest ≡ true) ⊎ (bit (written_to x.target x v) m k ≡ bit (written_to x.target x u) m k)
one_after true x v u m k t lv lu l rest h = inr (written_made x.target x v m k lv l t ∙ sym (written_made x.target x u m k lu l t))
one_after false x v u m k t lv lu l rest h = ⊎_elim
    (λ (r : rest ≡ true). inl r)
    (λ (e : bit v m k ≡ bit u m k). inr (written_stays x.target x v m k l t ∙ e ∙ sym (written_stays x.target x u m k l t)))
    h

bit_after : (us : List Update) (v u : Values) (m k : ℕ) → m < length v.nets → m < length u.nets → k < 128
    → (touched us m k ≡ true) ⊎ (bit v m k ≡ bit u m k) → bit (apply us v) m k ≡ bit (apply us u) m k
bit_after [] v u m k lv lu l h = ⊎_elim (λ (t : false ≡ true). absurd cc) (λ (e : bit v m k ≡ bit u m k). e) h
bit_after (x ∷ us) v u m k lv lu l h =
    let a = written_long x.target x v in
    let b = written_long x.target x u in
    bit_after us (written_to x.target x v) (written_to x.target x u) m k (subst (λ n. m < n) (sym a.0) lv) (subst (λ n. m < n)
    (sym b.0) lu) l
    (one_after (touches_at x.target x m k) x v u m k refl lv lu l (touched us m k) h)

written_words : (target : Target) (x : Update) (v u : Values) → v.words ≡ u.words → (written_to target x v).words ≡
    (written_to target x u).words
written_words (Net m) x v u h = h
written_words (WordTarget i) x v u h = ap (λ (ws : List ℕ). slice_set ws i (put_of (slice_index ws i) x.low x.width x.number)) h

words_after : (us : List Update) (v u : Values) → v.words ≡ u.words → (apply us v).words ≡ (apply us u).words
words_after [] v u h = h
words_after (x ∷ us) v u h = words_after us (written_to x.target x v) (written_to x.target x u) (written_words x.target x v u h)

both_past : (xs ys : List ℕ) (m k : ℕ) → length xs ≤ m → length ys ≤ m → bit_at (slice_index xs m) k ≡ bit_at (slice_index ys m) k
both_past xs ys m k lx ly = ap (λ n. bit_at n k) (get_or_past xs m 0 lx ∙ sym (get_or_past ys m 0 ly))

same_after : (us : List Update) (p q : BitSet) (v u : Values) → Same p v u → ((m k : ℕ) → q m k ≡ true → touched us m k ≡ true)
    → Same (joint p q) (apply us v) (apply us u)
same_after us p q v u h cover =
    let a = applied_long us v in
    let b = applied_long us u in
    record {
      bits = λ m k t. ⊎_elim
          (λ (l : k < 128). ⊎_elim
          (λ (there : m < length v.nets). bit_after us v u m k there (subst (λ n. m < n) h.long there) l (⊎_elim
          (λ (tp : p m k ≡ true). inr (h.bits m k tp))
          (λ (tq : q m k ≡ true). inl (cover m k tq))
          (or_cases (p m k) (q m k) t)))
          (λ (past : length v.nets ≤ m). both_past (apply us v).nets (apply us u).nets m k (subst (λ n. n ≤ m) (sym a.0) past)
          (subst (λ n. n ≤ m) (sym (b.0 ∙ sym h.long)) past))
          (cases_lt m (length v.nets)))
          (λ (g : 128 ≤ k). bit_at_above _ 128 k (nets_narrow us v h.narrow_v m) g
          ∙ sym (bit_at_above _ 128 k (nets_narrow us u h.narrow_u m) g))
          (cases_lt k 128);
      words = words_after us v u h.words;
      long = a.0 ∙ h.long ∙ sym b.0;
      narrow_v = nets_narrow us v h.narrow_v;
      narrow_u = nets_narrow us u h.narrow_u;
    }

-- ---- statements that read the same bits make the same updates
known_more : (known p q : BitSet) → Within known p → Within (joint known q) (joint p q)
known_more known p q w m k t = ⊎_elim
    (λ (a : known m k ≡ true). or_left (p m k) (q m k) (w m k a))
    (λ (b : q m k ≡ true). or_right (p m k) (q m k) b)
    (or_cases (known m k) (q m k) t)

mutual
  act_same : (a : Act) (known p : BitSet) (v u : Values) → Within (open_reads Blocking a known) p → Within known p → Same p v u
      → updates Blocking a v ≡ updates Blocking a u
  act_same (Set target e) known p v u w kp h =
      let all : Within (joint (reads e) (target_reads target)) p = λ m k t. opened (reads e m k || target_reads target m k)
      (known m k) (p m k)
      (w m k) (kp m k) t in
      ap (λ x. target_updates target x v) (value_same p v u h e (left_of (reads e) (target_reads target) p all))
      ∙ target_same p v u h target (value e u) (right_of (reads e) (target_reads target) p all)
  act_same (Read e) known p v u w kp h = refl
  act_same (Branch' n guards l otherwise) known p v u w kp h =
      guards_same guards known p (act_row Blocking otherwise v) (act_row Blocking otherwise u) v u
      (left_of (open_reads_guards Blocking guards known) (open_reads_row Blocking otherwise known) p w) kp h
      (row_same otherwise known p v u (right_of (open_reads_guards Blocking guards known)
      (open_reads_row Blocking otherwise known) p w) kp h)

  guards_same : {n : _} → (row : Row_of-Guard n) (known p : BitSet) (us ws : List Update) (v u : Values)
      → Within (open_reads_guards Blocking row known) p → Within known p → Same p v u → us ≡ ws
      → guard_row Blocking row us v ≡ guard_row Blocking row ws u
  guards_same end_of-Guard known p us ws v u w kp h e = e
  guards_same (more_of-Guard c l body rest) known p us ws v u w kp h e =
      let test : BitSet = λ m k. reads c m k && not (known m k) in
      let others : BitSet = joint (open_reads_row Blocking body known) (open_reads_guards Blocking rest known) in
      let wr : Within others p = right_of test others p w in
      let wc : Within (reads c) p = λ m k t. opened (reads c m k) (known m k) (p m k) (left_of test others p w m k) (kp m k) t in
      let last = guards_same rest known p us ws v u
      (right_of (open_reads_row Blocking body known) (open_reads_guards Blocking rest known) p wr) kp h e in
      let first = row_same body known p v u (left_of (open_reads_row Blocking body known) (open_reads_guards Blocking rest known) p wr) kp
      h in
      ap (λ n. if n == 0 then guard_row Blocking rest us v else act_row Blocking body v) (value_same p v u h c wc)
      ∙ ap (λ xs. if value c u == 0 then xs else act_row Blocking body v) last
      ∙ ap (λ xs. if value c u == 0 then guard_row Blocking rest ws u else xs) first

  row_same : {n : _} → (row : Row_of-Act n) (known p : BitSet) (v u : Values) → Within (open_reads_row Blocking row known) p
      → Within known p
      → Same p v u → act_row Blocking row v ≡ act_row Blocking row u
  row_same end_of-Act known p v u w kp h = refl
  row_same (more_of-Act a rest) known p v u w kp h =
      let us : List Update = updates Blocking a v in
      let later : BitSet = open_reads_row Blocking rest (joint known (adds a)) in
      let e : us ≡ updates Blocking a u = act_same a known p v u (left_of (open_reads Blocking a known) later p w) kp h in
      let after = same_after us p (adds a) v u h (λ m k t. act_covered a v m k t) in
      let r = row_same rest (joint known (adds a)) (joint p (adds a)) (apply us v) (apply us u)
      (λ m k t. or_left (p m k) (adds a m k) (right_of (open_reads Blocking a known) later p w m k t))
      (known_more known p (adds a) kp) after in
      ap (λ xs. us ++ xs) r ∙ ap (λ xs. xs ++ act_row Blocking rest (apply xs u)) e

block_same : (acts : List Act) (known p : BitSet) (v u : Values) → Within (block_open_reads Blocking acts known) p → Within known p
    → Same p v u → block_updates Blocking acts v ≡ block_updates Blocking acts u
block_same [] known p v u w kp h = refl
block_same (a ∷ rest) known p v u w kp h =
    let us : List Update = updates Blocking a v in
    let later : BitSet = block_open_reads Blocking rest (joint known (adds a)) in
    let e : us ≡ updates Blocking a u = act_same a known p v u (left_of (open_reads Blocking a known) later p w) kp h in
    let after = same_after us p (adds a) v u h (λ m k t. act_covered a v m k t) in
    let r = block_same rest (joint known (adds a)) (joint p (adds a)) (apply us v) (apply us u)
    (λ m k t. or_left (p m k) (adds a m k) (right_of (open_reads Blocking a known) later p w m k t))
    (known_more known p (adds a) kp) after in
    ap (λ xs. us ++ xs) r ∙ ap (λ xs. xs ++ block_updates Blocking rest (apply xs u)) e

-- a block that reads the same bits makes what it surely assigns the same
pub run_same : (acts : List Act) (p : BitSet) (v u : Values) → Within (block_reads Blocking acts) p → Same p v u
    → Same (joint p (block_adds acts)) (run acts v) (run acts u)
run_same acts p v u w h =
    let us : List Update = block_updates Blocking acts v in
    let e : us ≡ block_updates Blocking acts u = block_same acts no_bits p v u w (λ m k t. absurd cc) h in
    subst (λ ws. Same (joint p (block_adds acts)) (apply us v) (apply ws u)) e
    (same_after us p (block_adds acts) v u h (λ m k t. block_covered acts v m k t))
