-- What moved code reads and updates is what the code does, from the first places on.
use Rattle.std.proofs.Common.{◌≡◌, ℕ, ◌+◌, ◌-◌, ◌*◌, ◌/◌, ◌%◌, ◌^◌, ◌↔◌, ◌==◌, nat_lt, min, Bool, true, false, List, [], ◌∷◌, ◌++◌}
use Rattle.std.proofs.Common.{if◌then◌else◌, slice_index, slice_set, map, take, drop, refl, ap, sym, ◌∙◌, arith}
use Rattle.std.proofs.lemmas.List.{get_or-drop, drop-set-add, take-set-le, take-append-drop, map-append}
use Rattle.std.proofs.lemmas.List.Sums.{sum_by-cons}
use Rattle.net_design.specs.declared.rhs.Span.{Span}
use Rattle.net_design.specs.declared.rhs.Room.{Room}
use Rattle.net_design.specs.declared.rhs.Rhs.{Rhs, Number, Bits, Word', Unary', Binary', Choose', Join', Repeat', Select'}
use Rattle.net_design.specs.declared.act.Place.{Place}
use Rattle.net_design.specs.declared.act.Place.TheVariants.{Bits as PlaceBits, BitsFrom, Word as PlaceWord, WordFrom}
use Rattle.net_design.specs.declared.act.Act.{Act, Set, Read, Branch', Row_of-Act, end_of-Act, more_of-Act, Row_of-Guard, end_of-Guard}
use Rattle.net_design.specs.declared.act.Act.{more_of-Guard}
use Rattle.net_design.specs.declared.act.Timing.{Timing}
use Rattle.net_design.specs.declared.act.Timing.TheVariants.{Blocking, Nonblocking}
use Rattle.net_design.specs.declared.values.Target.{Target}
use Rattle.net_design.specs.declared.values.Target.TheVariants.{Net, Word as WordTarget}
use Rattle.net_design.specs.declared.values.Update.{Update}
use Rattle.net_design.specs.declared.values.Values.{Values}
use Rattle.net_design.specs.vidi_bits.Number.{part_of, put_of, repeated}
use Rattle.net_design.specs.Value.{read, word_at, value}
use Rattle.net_design.specs.vidi_bits.Operators.{unary_number, binary_number}
use Rattle.net_design.specs.Updates.{written_to, apply, update, bit_updates, part_updates, word_updates, place_updates, place_width}
use Rattle.net_design.specs.Updates.{target_width, target_updates, seen, updates, guard_row, act_row, block_updates, run}
use Rattle.net_code.specs.Moved.{moved_span, moved_room, moved_rhs, moved_place, moved_act, moved_guards, moved_row, from_first}
use Rattle.net_code.specs.Moved.{moved_target, moved_update}

module _ (net word : ℕ) where
  read_moved : (s : Span) (v : Values) → read (moved_span net word s) v ≡ read s (from_first net word v)
  read_moved s v = ap (λ x. part_of x s.low s.width) (sym (get_or-drop net v.nets s.net 0))

  word_place : (r : Room) (i : ℕ) → word + r.first + i ≡ word + (r.first + i)
  word_place r i = omega arith

  word_moved : (r : Room) (i : ℕ) (v : Values) → word_at (moved_room net word r) i v ≡ word_at r i (from_first net word v)
  word_moved r i v =
      ap (λ x. if nat_lt i r.length then x else 0) (ap (slice_index v.words) (word_place r i)
      ∙ sym (get_or-drop word v.words (r.first + i) 0))

  pub value_moved : (e : Rhs) (v : Values) → value (moved_rhs net word e) v ≡ value e (from_first net word v)
  value_moved (Number n) v = refl
  value_moved (Bits s) v = read_moved s v
  value_moved (Word' r p i) v =
      ap (λ x. word_at (moved_room net word r) x v) (value_moved i v) ∙ word_moved r (value i (from_first net word v)) v
  value_moved (Unary' op p a w) v = ap (λ x. unary_number op x w) (value_moved a v)
  value_moved (Binary' op p a q b w) v =
      ap (λ x. binary_number op x (value (moved_rhs net word b) v) w) (value_moved a v)
      ∙ ap (λ x. binary_number op (value a (from_first net word v)) x w) (value_moved b v)
  value_moved (Choose' p c q a r b) v =
      ap (λ x. if x == 0 then value (moved_rhs net word b) v else value (moved_rhs net word a) v) (value_moved c v)
      ∙ ap (λ x. if value c (from_first net word v) == 0 then x else value (moved_rhs net word a) v) (value_moved b v)
      ∙ ap (λ x. if value c (from_first net word v) == 0 then value b (from_first net word v) else x) (value_moved a v)
  value_moved (Join' p high q low x y) v =
      ap (λ z. z % 2 ^ x * 2 ^ y + value (moved_rhs net word low) v % 2 ^ y) (value_moved high v)
      ∙ ap (λ z. value high (from_first net word v) % 2 ^ x * 2 ^ y + z % 2 ^ y) (value_moved low v)
  value_moved (Repeat' n p a w) v = ap (λ x. repeated n x w) (value_moved a v)
  value_moved (Select' p a q i w) v =
      ap (λ x. part_of x (value (moved_rhs net word i) v) w) (value_moved a v)
      ∙ ap (λ x. part_of (value a (from_first net word v)) x w) (value_moved i v)

  -- ---- updates
  if_map : (b : Bool) (xs : List Update) → (if b then map (moved_update net word) xs else []) ≡ map (moved_update net word)
      (if b then xs else [])
  if_map true xs = refl
  if_map false xs = refl

  none_map : (b : Bool) (xs : List Update) → (if b then [] else map (moved_update net word) xs) ≡ map (moved_update net word)
      (if b then [] else xs)
  none_map true xs = refl
  none_map false xs = refl

  part_moved : (t : Target) (low size i w x : ℕ) → part_updates (moved_target net word t) low size i w x ≡ map (moved_update net word)
      (part_updates t low size i w x)
  part_moved t low size i w x = if_map (nat_lt i size) (update t (low + i) (min w (size - i)) x ∷ [])

  words_moved : (r : Room) (i : ℕ) (f g : Target → List Update) →
      ((t : Target) → f (moved_target net word t) ≡ map (moved_update net word) (g t))
      → word_updates (moved_room net word r) i f ≡ map (moved_update net word) (word_updates r i g)
  words_moved r i f g h =
      ap (λ us. if nat_lt i r.length then us else []) (ap (λ k. f (WordTarget k)) (word_place r i) ∙ h (WordTarget (r.first + i)))
      ∙ if_map (nat_lt i r.length) (g (WordTarget (r.first + i)))

  place_moved : (p : Place) (x : ℕ) (v : Values) → place_updates (moved_place net word p) x v ≡ map (moved_update net word)
      (place_updates p x (from_first net word v))
  place_moved (PlaceBits s n) x v = none_map (s.width == 0) (update (Net s.net) s.low s.width x ∷ [])
  place_moved (BitsFrom s i w) x v =
      ap (λ k. part_updates (Net (net + s.net)) s.low s.width k w x) (value_moved i v)
      ∙ part_moved (Net s.net) s.low s.width (value i (from_first net word v)) w x
  place_moved (PlaceWord r i low w n) x v =
      ap (λ k. word_updates (moved_room net word r) k (λ t. bit_updates t low w x)) (value_moved i v)
      ∙ words_moved r (value i (from_first net word v)) (λ t. bit_updates t low w x) (λ t. bit_updates t low w x)
      (λ t. none_map (w == 0) (update t low w x ∷ []))
  place_moved (WordFrom r i size j w) x v =
      ap (λ k. word_updates (moved_room net word r) k (λ t. part_updates t 0 size (value (moved_rhs net word j) v) w x)) (value_moved i v)
      ∙ words_moved r (value i (from_first net word v)) (λ t. part_updates t 0 size (value (moved_rhs net word j) v) w x)
      (λ t. part_updates t 0 size (value j (from_first net word v)) w x)
      (λ t. ap (λ k. part_updates (moved_target net word t) 0 size k w x) (value_moved j v)
      ∙ part_moved t 0 size (value j (from_first net word v)) w x)

  width_place : (p : Place) → place_width (moved_place net word p) ≡ place_width p
  width_place (PlaceBits s n) = refl
  width_place (BitsFrom s i w) = refl
  width_place (PlaceWord r i low w n) = refl
  width_place (WordFrom r i size j w) = refl

  pub width_moved : (ps : List Place) → target_width (map (moved_place net word) ps) ≡ target_width ps
  width_moved [] = refl
  width_moved (p ∷ ps) =
      sum_by-cons place_width (moved_place net word p) (map (moved_place net word) ps)
      ∙ ap (λ x. x + target_width (map (moved_place net word) ps)) (width_place p)
      ∙ ap (λ x. place_width p + x) (width_moved ps)
      ∙ sym (sum_by-cons place_width p ps)

  two_lists : (xs ys xs' ys' : List Update) → xs ≡ map (moved_update net word) xs' → ys ≡ map (moved_update net word) ys'
      → xs ++ ys ≡ map (moved_update net word) (xs' ++ ys')
  two_lists xs ys xs' ys' h k =
      ap (λ zs. zs ++ ys) h ∙ ap (λ zs. map (moved_update net word) xs' ++ zs) k ∙ sym (map-append (moved_update net word) xs' ys')

  target_moved : (ps : List Place) (x : ℕ) (v : Values)
      → target_updates (map (moved_place net word) ps) x v ≡ map (moved_update net word) (target_updates ps x (from_first net word v))
  target_moved [] x v = refl
  target_moved (p ∷ ps) x v =
      two_lists _ _ (place_updates p (x / 2 ^ target_width ps) (from_first net word v)) (target_updates ps x (from_first net word v))
      (ap (λ w. place_updates (moved_place net word p) (x / 2 ^ w) v) (width_moved ps) ∙ place_moved p (x / 2 ^ target_width ps) v)
      (target_moved ps x v)

  -- ---- updates made
  written_moved : (t : Target) (u : Update) (v : Values)
      → from_first net word (written_to (moved_target net word t) (moved_update net word u) v) ≡ written_to t u (from_first net word v)
  written_moved (Net m) u v =
      ap (λ xs. record { nets = xs; words = drop word v.words })
      (drop-set-add net v.nets m (put_of (slice_index v.nets (net + m)) u.low u.width u.number)
      ∙ ap (λ x. slice_set (drop net v.nets) m (put_of x u.low u.width u.number)) (sym (get_or-drop net v.nets m 0)))
  written_moved (WordTarget i) u v =
      ap (λ xs. record { nets = drop net v.nets; words = xs })
      (drop-set-add word v.words i (put_of (slice_index v.words (word + i)) u.low u.width u.number)
      ∙ ap (λ x. slice_set (drop word v.words) i (put_of x u.low u.width u.number)) (sym (get_or-drop word v.words i 0)))

  pub apply_moved : (us : List Update) (v : Values) → from_first net word (apply (map (moved_update net word) us) v) ≡ apply us
      (from_first net word v)
  apply_moved [] v = refl
  apply_moved (u ∷ us) v =
      apply_moved us (written_to (moved_target net word u.target) (moved_update net word u) v) ∙ ap (apply us) (written_moved u.target u v)

  nets_before : (t : Target) (u : Update) (v : Values) → take net (written_to (moved_target net word t) u v).nets ≡ take net v.nets
  nets_before (Net m) u v = take-set-le net v.nets (net + m) _ (omega arith)
  nets_before (WordTarget i) u v = refl

  words_before : (t : Target) (u : Update) (v : Values) → take word (written_to (moved_target net word t) u v).words ≡ take word v.words
  words_before (Net m) u v = refl
  words_before (WordTarget i) u v = take-set-le word v.words (word + i) _ (omega arith)

  -- the numbers before the first places stay
  pub before_stay : (us : List Update) (v : Values)
      → (take net (apply (map (moved_update net word) us) v).nets ≡ take net v.nets) ×
      (take word (apply (map (moved_update net word) us) v).words ≡ take word v.words)
  before_stay [] v = (refl, refl)
  before_stay (u ∷ us) v =
      let next : Values = written_to (moved_target net word u.target) (moved_update net word u) v in
      let h = before_stay us next in
      (h.0 ∙ nets_before u.target (moved_update net word u) v, h.1 ∙ words_before u.target (moved_update net word u) v)

  seen_moved : (t : Timing) (us : List Update) (v : Values) → from_first net word (seen t (map (moved_update net word) us) v) ≡ seen t us
      (from_first net word v)
  seen_moved Blocking us v = apply_moved us v
  seen_moved Nonblocking us v = refl

  if_both : (b : Bool) (x y x' y' : List Update) → x ≡ map (moved_update net word) x' → y ≡ map (moved_update net word) y'
      → (if b then x else y) ≡ map (moved_update net word) (if b then x' else y')
  if_both true x y x' y' h k = h
  if_both false x y x' y' h k = k

  -- the rest of a block, after a statement whose updates are us
  rest_moved : (t : Timing) (us : List Update) (v : Values) (f : Values → List Update) (g : Values → List Update) (first : List Update)
      → first ≡ map (moved_update net word) us
      → ((u : Values) → f u ≡ map (moved_update net word) (g (from_first net word u)))
      → first ++ f (seen t first v) ≡ map (moved_update net word) (us ++ g (seen t us (from_first net word v)))
  rest_moved t us v f g first h k =
      two_lists first (f (seen t first v)) us (g (seen t us (from_first net word v))) h
      (ap (λ zs. f (seen t zs v)) h ∙ k (seen t (map (moved_update net word) us) v)
      ∙ ap (λ u. map (moved_update net word) (g u)) (seen_moved t us v))

  mutual
    act_moved : (t : Timing) (a : Act) (v : Values) → updates t (moved_act net word a) v ≡ map (moved_update net word)
        (updates t a (from_first net word v))
    act_moved t (Set target e) v =
        ap (λ x. target_updates (map (moved_place net word) target) x v) (value_moved e v)
        ∙ target_moved target (value e (from_first net word v)) v
    act_moved t (Read e) v = refl
    act_moved t (Branch' n guards l otherwise) v =
        guards_moved t guards (act_row t (moved_row net word otherwise) v) (act_row t otherwise (from_first net word v)) v
        (row_moved t otherwise v)

    guards_moved : {n : _} → (t : Timing) (row : Row_of-Guard n) (us us' : List Update) (v : Values) → us ≡ map (moved_update net word) us'
        → guard_row t (moved_guards net word row) us v ≡ map (moved_update net word) (guard_row t row us' (from_first net word v))
    guards_moved t end_of-Guard us us' v h = h
    guards_moved t (more_of-Guard c k body rest) us us' v h =
        ap (λ x. if x == 0 then guard_row t (moved_guards net word rest) us v else act_row t (moved_row net word body) v) (value_moved c v)
        ∙ if_both (value c (from_first net word v) == 0) _ _ (guard_row t rest us' (from_first net word v))
        (act_row t body (from_first net word v))
        (guards_moved t rest us us' v h) (row_moved t body v)

    row_moved : {n : _} → (t : Timing) (row : Row_of-Act n) (v : Values)
        → act_row t (moved_row net word row) v ≡ map (moved_update net word) (act_row t row (from_first net word v))
    row_moved t end_of-Act v = refl
    row_moved t (more_of-Act a rest) v =
        rest_moved t (updates t a (from_first net word v)) v (λ u. act_row t (moved_row net word rest) u) (λ u. act_row t rest u)
        (updates t (moved_act net word a) v)
        (act_moved t a v) (λ u. row_moved t rest u)

  pub block_moved : (t : Timing) (acts : List Act) (v : Values)
      → block_updates t (map (moved_act net word) acts) v ≡ map (moved_update net word) (block_updates t acts (from_first net word v))
  block_moved t [] v = refl
  block_moved t (a ∷ rest) v =
      rest_moved t (updates t a (from_first net word v)) v (λ u. block_updates t (map (moved_act net word) rest) u)
      (λ u. block_updates t rest u) (updates t (moved_act net word a) v)
      (act_moved t a v) (λ u. block_moved t rest u)

  -- ---- the settled map
  rejoined : (n : ℕ) (xs ys : List ℕ) → take n xs ≡ take n ys → drop n xs ≡ drop n ys → xs ≡ ys
  rejoined n xs ys h k = sym (take-append-drop n xs) ∙ ap (λ zs. zs ++ drop n xs) h ∙ ap (λ zs. take n ys ++ zs) k ∙ take-append-drop n ys

  run_moved : (acts : List Act) (v : Values) → from_first net word (run (map (moved_act net word) acts) v) ≡ run acts
      (from_first net word v)
  run_moved acts v =
      ap (λ us. from_first net word (apply us v)) (block_moved Blocking acts v)
      ∙ apply_moved (block_updates Blocking acts (from_first net word v)) v

  pub fixed_moved : (acts : List Act) (v : Values) → (run (map (moved_act net word) acts) v ≡ v) ↔
      (run acts (from_first net word v) ≡ from_first net word v)
  fixed_moved acts v = (
    (λ h. sym (run_moved acts v) ∙ ap (from_first net word) h),
    (λ h.
        let us : List Update = block_updates Blocking acts (from_first net word v) in
        let w : Values = apply (map (moved_update net word) us) v in
        let is : run (map (moved_act net word) acts) v ≡ w = ap (λ xs. apply xs v) (block_moved Blocking acts v) in
        let same : from_first net word w ≡ from_first net word v = apply_moved us v ∙ h in
        let stay = before_stay us v in
        let nets : w.nets ≡ v.nets = rejoined net w.nets v.nets stay.0 (ap (λ (u : Values). u.nets) same) in
        let words : w.words ≡ v.words = rejoined word w.words v.words stay.1 (ap (λ (u : Values). u.words) same) in
        is ∙ ap (λ xs. record { nets = xs; words = w.words }) nets ∙ ap (λ xs. record { nets = v.nets; words = xs }) words),
  )
