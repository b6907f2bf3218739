-- The bits of moved code are those of the code, moved.
use Rattle.std.proofs.Common.{◌≡◌, ℕ, ◌+◌, ◌-◌, ◌≤◌, ◌==◌, ◌&&◌, ◌||◌, not, nat_le, nat_lt, Bool, true, false, List, [], ◌∷◌, map, refl, ap}
use Rattle.std.proofs.Common.{sym, ◌∙◌, arith}
use Rattle.std.specs.List.{list_any}
use Rattle.std.proofs.lemmas.Bool.{eqb-true, eq-eqb, leb-true, le-leb, and_parts}
use Rattle.std.proofs.Math.Bool.{and_assoc}
use Rattle.net_design.proofs.vidi_bits_lemmas.Bools.{and_none, same_test}
use Rattle.net_design.specs.declared.rhs.Span.{Span}
use Rattle.net_design.specs.declared.rhs.Rhs.{Rhs, Number, Bits, Word', Unary', Binary', Choose', Join', Repeat', Select'}
use Rattle.net_design.specs.declared.act.Place.{Place}
use Rattle.net_design.specs.declared.act.Place.TheVariants.{Bits as PlaceBits, BitsFrom, Word as PlaceWord, WordFrom}
use Rattle.net_design.specs.declared.act.Mask.{Mask}
use Rattle.net_design.specs.declared.act.Act.{Act, Set, Read, Branch', Row_of-Act, end_of-Act, more_of-Act, Row_of-Guard, end_of-Guard}
use Rattle.net_design.specs.declared.act.Act.{more_of-Guard}
use Rattle.net_design.specs.declared.act.Code.{Code}
use Rattle.net_design.specs.declared.act.Timing.{Timing}
use Rattle.net_design.specs.declared.act.Timing.TheVariants.{Blocking, Nonblocking}
use Rattle.net_design.specs.vidi_bits.Number.{has}
use Rattle.net_design.specs.Bits.{BitSet, no_bits, bits_of, named, reads, place_reads, place_writes, place_adds, target_reads}
use Rattle.net_design.specs.Bits.{target_writes, target_adds, Apart, writes, writes_guards, writes_row, adds, adds_guards, adds_row}
use Rattle.net_design.specs.Bits.{known_after, open_reads, open_reads_guards, open_reads_row}
use Rattle.net_design.specs.Bits.{HasBits, block_writes, block_adds, block_open_reads, block_reads, place_is_word, writes_words}
use Rattle.net_design.specs.Bits.{guards_write_words, row_writes_words, block_writes_words}
use Rattle.net_code.specs.Moved.{moved_span, moved_rhs, moved_place, moved_act, moved_guards, moved_row, moved_mask, moved_bits, moved}

-- ---- Bool

under_or : (b x y p q : Bool) → x ≡ (b && p) → y ≡ (b && q) → (x || y) ≡ (b && (p || q))
under_or true x y p q h k = ap (λ z. z || y) h ∙ ap (λ z. p || z) k
under_or false x y p q h k = ap (λ z. z || y) h ∙ k

-- what isn't known, where what is known is the same under b
under_not : (b x p s t : Bool) → x ≡ (b && p) → (b ≡ true → s ≡ t) → (x && not s) ≡ (b && (p && not t))
under_not true x p s t h k = ap (λ z. z && not s) h ∙ ap (λ z. p && not z) (k refl)
under_not false x p s t h k = ap (λ z. z && not s) h

under_true : (b x p : Bool) → x ≡ (b && p) → b ≡ true → x ≡ p
under_true b x p h k = h ∙ ap (λ z. z && p) k

both_of : (x x' y y' : Bool) → x ≡ x' → y ≡ y' → (x || y) ≡ (x' || y')
both_of x x' y y' h k = ap (λ z. z || y) h ∙ ap (λ z. x' || z) k

all_of : (b g h o o' : Bool) → (b ≡ true → g ≡ h) → o ≡ (b && o') → (g && o) ≡ (b && (h && o'))
all_of true g h o o' e k = ap (λ z. z && o) (e refl) ∙ ap (λ z. h && z) k
all_of false g h o o' e k = ap (λ z. g && z) k ∙ sym (and_none g)

module _ (net word : ℕ) where
  place_test : (a m : ℕ) → ((net + a) == m) ≡ (nat_le net m && (a == m - net))
  place_test a m = same_test _ _
      (λ h. let e : net + a ≡ m = eqb-true _ _ h in
      let l : nat_le net m ≡ true = le-leb net m (omega arith) in
      let s : (a == m - net) ≡ true = eq-eqb a (m - net) (omega arith) in
      rw (l, s) refl)
      (λ h. let p = and_parts _ _ h in
      let l : net ≤ m = leb-true _ _ p.0 in
      let e : a ≡ m - net = eqb-true _ _ p.1 in
      eq-eqb (net + a) m (omega arith))

  span_moved : (s : Span) (m k : ℕ) → bits_of (moved_span net word s) m k ≡ moved_bits net word (bits_of s) m k
  span_moved s m k =
      ap (λ b. b && (nat_le s.low k && nat_lt k (s.low + s.width))) (place_test s.net m) ∙ and_assoc (nat_le net m) (s.net == m - net) _

  pub named_moved : (masks : List Mask) (m k : ℕ) → named (map (moved_mask net word) masks) m k ≡ moved_bits net word (named masks) m k
  named_moved [] m k = and_none (nat_le net m)
  named_moved (x ∷ masks) m k =
      under_or (nat_le net m) _ _ ((x.net == m - net) && has x.bits k) (named masks (m - net) k)
      (ap (λ b. b && has x.bits k) (place_test x.net m) ∙ and_assoc (nat_le net m) (x.net == m - net) _) (named_moved masks m k)

  pub reads_moved : (e : Rhs) (m k : ℕ) → reads (moved_rhs net word e) m k ≡ moved_bits net word (reads e) m k
  reads_moved (Number n) m k = and_none (nat_le net m)
  reads_moved (Bits s) m k = span_moved s m k
  reads_moved (Word' r p i) m k = reads_moved i m k
  reads_moved (Unary' op p a w) m k = reads_moved a m k
  reads_moved (Binary' op p a q b w) m k = under_or (nat_le net m) _ _ _ _ (reads_moved a m k) (reads_moved b m k)
  reads_moved (Choose' p c q a r b) m k =
      under_or (nat_le net m) _ _ _ _ (reads_moved c m k) (under_or (nat_le net m) _ _ _ _ (reads_moved a m k) (reads_moved b m k))
  reads_moved (Join' p high q low x y) m k = under_or (nat_le net m) _ _ _ _ (reads_moved high m k) (reads_moved low m k)
  reads_moved (Repeat' n p a w) m k = reads_moved a m k
  reads_moved (Select' p a q i w) m k = under_or (nat_le net m) _ _ _ _ (reads_moved a m k) (reads_moved i m k)

  place_reads_moved : (p : Place) (m k : ℕ) → place_reads (moved_place net word p) m k ≡ moved_bits net word (place_reads p) m k
  place_reads_moved (PlaceBits s n) m k = and_none (nat_le net m)
  place_reads_moved (BitsFrom s i w) m k = reads_moved i m k
  place_reads_moved (PlaceWord r i low w n) m k = reads_moved i m k
  place_reads_moved (WordFrom r i size j w) m k = under_or (nat_le net m) _ _ _ _ (reads_moved i m k) (reads_moved j m k)

  place_writes_moved : (p : Place) (m k : ℕ) → place_writes (moved_place net word p) m k ≡ moved_bits net word (place_writes p) m k
  place_writes_moved (PlaceBits s n) m k = span_moved s m k
  place_writes_moved (BitsFrom s i w) m k = span_moved s m k
  place_writes_moved (PlaceWord r i low w n) m k = and_none (nat_le net m)
  place_writes_moved (WordFrom r i size j w) m k = and_none (nat_le net m)

  place_adds_moved : (p : Place) (m k : ℕ) → place_adds (moved_place net word p) m k ≡ moved_bits net word (place_adds p) m k
  place_adds_moved (PlaceBits s n) m k = span_moved s m k
  place_adds_moved (BitsFrom s i w) m k = and_none (nat_le net m)
  place_adds_moved (PlaceWord r i low w n) m k = and_none (nat_le net m)
  place_adds_moved (WordFrom r i size j w) m k = and_none (nat_le net m)

  target_reads_moved : (ps : List Place) (m k : ℕ) → target_reads (map (moved_place net word) ps) m k ≡ moved_bits net word
      (target_reads ps) m k
  target_reads_moved [] m k = and_none (nat_le net m)
  target_reads_moved (p ∷ ps) m k = under_or (nat_le net m) _ _ _ _ (place_reads_moved p m k) (target_reads_moved ps m k)

  target_writes_moved : (ps : List Place) (m k : ℕ) → target_writes (map (moved_place net word) ps) m k ≡ moved_bits net word
      (target_writes ps) m k
  target_writes_moved [] m k = and_none (nat_le net m)
  target_writes_moved (p ∷ ps) m k = under_or (nat_le net m) _ _ _ _ (place_writes_moved p m k) (target_writes_moved ps m k)

  target_adds_moved : (ps : List Place) (m k : ℕ) → target_adds (map (moved_place net word) ps) m k ≡ moved_bits net word
      (target_adds ps) m k
  target_adds_moved [] m k = and_none (nat_le net m)
  target_adds_moved (p ∷ ps) m k = under_or (nat_le net m) _ _ _ _ (place_adds_moved p m k) (target_adds_moved ps m k)

  -- ---- statements
  mutual
    writes_moved : (a : Act) (m k : ℕ) → writes (moved_act net word a) m k ≡ moved_bits net word (writes a) m k
    writes_moved (Set target e) m k = target_writes_moved target m k
    writes_moved (Read e) m k = and_none (nat_le net m)
    writes_moved (Branch' n guards l otherwise) m k =
        under_or (nat_le net m) _ _ _ _ (guard_writes_moved guards m k) (row_writes_moved otherwise m k)

    guard_writes_moved : {n : _} → (row : Row_of-Guard n) (m k : ℕ) → writes_guards (moved_guards net word row) m k ≡ moved_bits net word
        (writes_guards row) m k
    guard_writes_moved end_of-Guard m k = and_none (nat_le net m)
    guard_writes_moved (more_of-Guard c n body rest) m k =
        under_or (nat_le net m) _ _ _ _ (row_writes_moved body m k) (guard_writes_moved rest m k)

    row_writes_moved : {n : _} → (row : Row_of-Act n) (m k : ℕ) → writes_row (moved_row net word row) m k ≡ moved_bits net word
        (writes_row row) m k
    row_writes_moved end_of-Act m k = and_none (nat_le net m)
    row_writes_moved (more_of-Act a rest) m k = under_or (nat_le net m) _ _ _ _ (writes_moved a m k) (row_writes_moved rest m k)

  mutual
    adds_moved : (a : Act) (m k : ℕ) → adds (moved_act net word a) m k ≡ moved_bits net word (adds a) m k
    adds_moved (Set target e) m k = target_adds_moved target m k
    adds_moved (Read e) m k = and_none (nat_le net m)
    adds_moved (Branch' n guards l otherwise) m k =
        all_of (nat_le net m) _ _ _ _ (guard_adds_moved guards m k) (row_adds_moved otherwise m k)

    guard_adds_moved : {n : _} → (row : Row_of-Guard n) (m k : ℕ) → nat_le net m ≡ true
        → adds_guards (moved_guards net word row) m k ≡ adds_guards row (m - net) k
    guard_adds_moved end_of-Guard m k h = refl
    guard_adds_moved (more_of-Guard c n body rest) m k h =
        ap (λ z. z && adds_guards (moved_guards net word rest) m k) (under_true (nat_le net m) _ _ (row_adds_moved body m k) h)
        ∙ ap (λ z. adds_row body (m - net) k && z) (guard_adds_moved rest m k h)

    row_adds_moved : {n : _} → (row : Row_of-Act n) (m k : ℕ) → adds_row (moved_row net word row) m k ≡ moved_bits net word
        (adds_row row) m k
    row_adds_moved end_of-Act m k = and_none (nat_le net m)
    row_adds_moved (more_of-Act a rest) m k = under_or (nat_le net m) _ _ _ _ (adds_moved a m k) (row_adds_moved rest m k)

  -- two sets of known bits are the same from the first net on
  abbrev Same : BitSet → BitSet → Type 0
  Same s t = (m k : ℕ) → nat_le net m ≡ true → s m k ≡ t (m - net) k

  more_known : (t : Timing) (s u : BitSet) (a : Act) → Same s u → Same (known_after t s (adds (moved_act net word a)))
      (known_after t u (adds a))
  more_known Blocking s u a h m k l = both_of _ _ _ _ (h m k l) (under_true (nat_le net m) _ _ (adds_moved a m k) l)
  more_known Nonblocking s u a h m k l = h m k l

  mutual
    open_moved : (t : Timing) (a : Act) (s u : BitSet) → Same s u → (m k : ℕ)
        → open_reads t (moved_act net word a) s m k ≡ moved_bits net word (open_reads t a u) m k
    open_moved t (Set target e) s u h m k =
        under_not (nat_le net m) _ _ _ _ (under_or (nat_le net m) _ _ _ _ (reads_moved e m k) (target_reads_moved target m k)) (h m k)
    open_moved t (Read e) s u h m k = under_not (nat_le net m) _ _ _ _ (reads_moved e m k) (h m k)
    open_moved t (Branch' n guards l otherwise) s u h m k =
        under_or (nat_le net m) _ _ _ _ (guard_open_moved t guards s u h m k) (row_open_moved t otherwise s u h m k)

    guard_open_moved : {n : _} → (t : Timing) (row : Row_of-Guard n) (s u : BitSet) → Same s u → (m k : ℕ)
        → open_reads_guards t (moved_guards net word row) s m k ≡ moved_bits net word (open_reads_guards t row u) m k
    guard_open_moved t end_of-Guard s u h m k = and_none (nat_le net m)
    guard_open_moved t (more_of-Guard c n body rest) s u h m k =
        under_or (nat_le net m) _ _ _ _ (under_not (nat_le net m) _ _ _ _ (reads_moved c m k) (h m k))
        (under_or (nat_le net m) _ _ _ _ (row_open_moved t body s u h m k) (guard_open_moved t rest s u h m k))

    row_open_moved : {n : _} → (t : Timing) (row : Row_of-Act n) (s u : BitSet) → Same s u → (m k : ℕ)
        → open_reads_row t (moved_row net word row) s m k ≡ moved_bits net word (open_reads_row t row u) m k
    row_open_moved t end_of-Act s u h m k = and_none (nat_le net m)
    row_open_moved t (more_of-Act a rest) s u h m k =
        under_or (nat_le net m) _ _ _ _ (open_moved t a s u h m k)
        (row_open_moved t rest (known_after t s (adds (moved_act net word a))) (known_after t u (adds a)) (more_known t s u a h) m k)

  -- ---- blocks
  pub block_writes_moved : (acts : List Act) (m k : ℕ) → block_writes (map (moved_act net word) acts) m k ≡ moved_bits net word
      (block_writes acts) m k
  block_writes_moved [] m k = and_none (nat_le net m)
  block_writes_moved (a ∷ rest) m k = under_or (nat_le net m) _ _ _ _ (writes_moved a m k) (block_writes_moved rest m k)

  pub block_adds_moved : (acts : List Act) (m k : ℕ) → block_adds (map (moved_act net word) acts) m k ≡ moved_bits net word
      (block_adds acts) m k
  block_adds_moved [] m k = and_none (nat_le net m)
  block_adds_moved (a ∷ rest) m k = under_or (nat_le net m) _ _ _ _ (adds_moved a m k) (block_adds_moved rest m k)

  block_open : (t : Timing) (acts : List Act) (s u : BitSet) → Same s u → (m k : ℕ)
      → block_open_reads t (map (moved_act net word) acts) s m k ≡ moved_bits net word (block_open_reads t acts u) m k
  block_open t [] s u h m k = and_none (nat_le net m)
  block_open t (a ∷ rest) s u h m k =
      under_or (nat_le net m) _ _ _ _ (open_moved t a s u h m k)
      (block_open t rest (known_after t s (adds (moved_act net word a))) (known_after t u (adds a)) (more_known t s u a h) m k)

  pub block_open_moved : (t : Timing) (acts : List Act) (m k : ℕ)
      → block_reads t (map (moved_act net word) acts) m k ≡ moved_bits net word (block_reads t acts) m k
  block_open_moved t acts m k = block_open t acts no_bits no_bits (λ x y h. refl) m k

  pub bits_moved : (t : Timing) (c : Code) → HasBits t c → HasBits t (moved net word c)
  bits_moved t c h = record {
    writes = λ m k. named_moved c.writes m k ∙ ap (λ b. nat_le net m && b) (h.writes (m - net) k) ∙ sym (block_writes_moved c.acts m k);
    reads = λ m k. named_moved c.reads m k ∙ ap (λ b. nat_le net m && b) (h.reads (m - net) k) ∙ sym (block_open_moved t c.acts m k);
  }

  -- ---- memories, and targets that name and_none bit twice
  place_word_moved : (p : Place) → place_is_word (moved_place net word p) ≡ place_is_word p
  place_word_moved (PlaceBits s n) = refl
  place_word_moved (BitsFrom s i w) = refl
  place_word_moved (PlaceWord r i low w n) = refl
  place_word_moved (WordFrom r i size j w) = refl

  target_words_moved : (ps : List Place) → list_any place_is_word (map (moved_place net word) ps) ≡ list_any place_is_word ps
  target_words_moved [] = refl
  target_words_moved (p ∷ ps) = both_of _ _ _ _ (place_word_moved p) (target_words_moved ps)

  mutual
    words_moved : (a : Act) → writes_words (moved_act net word a) ≡ writes_words a
    words_moved (Set target e) = target_words_moved target
    words_moved (Read e) = refl
    words_moved (Branch' n guards l otherwise) = both_of _ _ _ _ (guard_words_moved guards) (row_words_moved otherwise)

    guard_words_moved : {n : _} → (row : Row_of-Guard n) → guards_write_words (moved_guards net word row) ≡ guards_write_words row
    guard_words_moved end_of-Guard = refl
    guard_words_moved (more_of-Guard c n body rest) = both_of _ _ _ _ (row_words_moved body) (guard_words_moved rest)

    row_words_moved : {n : _} → (row : Row_of-Act n) → row_writes_words (moved_row net word row) ≡ row_writes_words row
    row_words_moved end_of-Act = refl
    row_words_moved (more_of-Act a rest) = both_of _ _ _ _ (words_moved a) (row_words_moved rest)

  pub block_words_moved : (acts : List Act) → block_writes_words (map (moved_act net word) acts) ≡ block_writes_words acts
  block_words_moved [] = refl
  block_words_moved (a ∷ rest) = both_of _ _ _ _ (words_moved a) (block_words_moved rest)

  nowhere : (b p q : Bool) → (p ≡ true → q ≡ false) → (b && p) ≡ true → (b && q) ≡ false
  nowhere true p q h t = h t
  nowhere false p q h t = refl

  pub apart_moved : (ps : List Place) → Apart ps → Apart (map (moved_place net word) ps)
  apart_moved [] h = tt
  apart_moved (p ∷ ps) h = (
    (λ m k t. target_writes_moved ps m k ∙ nowhere (nat_le net m) _ _ (h.0 (m - net) k) (sym (place_writes_moved p m k) ∙ t)),
    apart_moved ps h.1,
  )
