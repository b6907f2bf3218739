-- Which nets code needs, and which slot an instruction may change.
use Rattle.std.proofs.Common.{◌≡◌, ◌≢◌, ℕ, zero, suc, ◌+◌, ◌-◌, ◌/◌, ◌%◌, ◌^◌, ◌<◌, ◌≤◌, ◌==◌, min, max, nat_lt, Bool, true, false}
use Rattle.std.proofs.Common.{if◌then◌else◌, bit_and, bit_or, bit_xor, List, [], ◌∷◌, ◌++◌, All, length, get_or, map, take, drop, replicate}
use Rattle.std.proofs.Common.{slice_index, slice_index_or, slice_set, ◌⊎◌, inl, inr, ⊎_elim, refl, ap, sym, subst, ◌∙◌, arith}
use Rattle.std.specs.List.{AllByRecursion}
use Rattle.std.proofs.lemmas.Bool.{cases_lt, lt-ltb}
use Rattle.std.proofs.lemmas.List.{length-set, length-take, length-drop, length-replicate, get_or-set_other, get_or-drop, get_or-take, get_or-replicate}
use Rattle.std.proofs.lemmas.List.Elements.{recursion_from_All, All-from_recursion}
use Rattle.std.proofs.lemmas.Grind.{same_number_lists}
use Rattle.net_design.specs.vidi_bits.Number.{part_of, put_of, difference, repeated, side_by_side, truth}
use Rattle.net_design.specs.vidi_bits.Operators.{unary_number, binary_number}
use Rattle.net_instr.specs.declared.instr.Step.{Step}
use Rattle.net_instr.specs.declared.instr.Step.TheVariants.{Number, Copy, Slice, And, Or, Xor, Add, Subtract, Less, Equal, LogicalNot}
use Rattle.net_instr.specs.declared.instr.Step.TheVariants.{Unary, Binary, Choose, Join, Repeat, Select, Word}
use Rattle.net_instr.specs.declared.instr.Instr.{Instr}
use Rattle.net_instr.specs.declared.instr.Instr.TheVariants.{Do, Put, PutFrom, PutWord, PutWordFrom, SkipIfZero, Skip}
use Rattle.net_instr.specs.declared.needs.Marks.{Marks}
use Rattle.net_instr.specs.Machine.{number_of, put_at, put_from, changed, skips, exec}
use Rattle.net_instr.specs.InPlace.{through, most_left, IsBehind}
use Rattle.net_instr.specs.Needs.{reads, reads_of, set_places, HasWordsBehind, with_read, with_reads, with_write, with_instr, with_code, IsEnough, target}
use Rattle.net_instr.proofs.InPlaceLaws.{either_way, changed_long, exec_long, skips_few}

-- ---- marks
set_marked : (xs : List Bool) (a : ℕ) → slice_index_or (slice_set xs a true) a true ≡ true
set_marked [] zero = refl
set_marked [] (suc a) = refl
set_marked (x ∷ xs) zero = refl
set_marked (x ∷ xs) (suc a) = set_marked xs a

set_keeps : (xs : List Bool) (a k : ℕ) → slice_index_or xs k true ≡ true → slice_index_or (slice_set xs a true) k true ≡ true
set_keeps [] zero k h = h
set_keeps [] (suc a) k h = h
set_keeps (x ∷ xs) zero zero h = refl
set_keeps (x ∷ xs) zero (suc k) h = h
set_keeps (x ∷ xs) (suc a) zero h = h
set_keeps (x ∷ xs) (suc a) (suc k) h = set_keeps xs a k h

abbrev IsRead : Marks → ℕ → Type 0
IsRead m k = slice_index_or m.read k true ≡ true

abbrev IsDone : Marks → ℕ → Type 0
IsDone m k = slice_index_or m.done k true ≡ true

by_done : (b : Bool) (a : ℕ) (m : Marks) (k : ℕ) → IsRead m k
    → IsRead (if b then m else record { read = slice_set m.read a true; done = m.done }) k
by_done true a m k h = h
by_done false a m k h = set_keeps m.read a k h

same_done : (b : Bool) (a : ℕ) (m : Marks) → (if b then m else record { read = slice_set m.read a true; done = m.done }).done ≡ m.done
same_done true a m = refl
same_done false a m = refl

read_or_done : (b : Bool) (a : ℕ) (m : Marks) → slice_index_or m.done a true ≡ b
    → IsRead (if b then m else record { read = slice_set m.read a true; done = m.done }) a ⊎ IsDone m a
read_or_done true a m e = inr e
read_or_done false a m e = inl (set_marked m.read a)

with_read_keeps : (a : ℕ) (m : Marks) (k : ℕ) → IsRead m k → IsRead (with_read a m) k
with_read_keeps a m k h = by_done (slice_index_or m.done a true) a m k h

with_read_done : (a : ℕ) (m : Marks) → (with_read a m).done ≡ m.done
with_read_done a m = same_done (slice_index_or m.done a true) a m

with_reads_keeps : (slots : List ℕ) (m : Marks) (k : ℕ) → IsRead m k → IsRead (with_reads slots m) k
with_reads_keeps [] m k h = h
with_reads_keeps (a ∷ slots) m k h = with_reads_keeps slots (with_read a m) k (with_read_keeps a m k h)

with_reads_done : (slots : List ℕ) (m : Marks) → (with_reads slots m).done ≡ m.done
with_reads_done [] m = refl
with_reads_done (a ∷ slots) m = with_reads_done slots (with_read a m) ∙ with_read_done a m

with_write_read : (left : ℕ) (i : Instr) (m : Marks) → (with_write left i m).read ≡ m.read
with_write_read zero (Do to step) m = refl
with_write_read zero (Put to low w a rest) m = refl
with_write_read zero (PutFrom to low size i w a rest) m = refl
with_write_read zero (PutWord first size i low w a rest) m = refl
with_write_read zero (PutWordFrom first n i size j w a rest) m = refl
with_write_read zero (SkipIfZero c n) m = refl
with_write_read zero (Skip n) m = refl
with_write_read (suc left) i m = refl

with_code_keeps : (code : List Instr) (left : ℕ) (m : Marks) (k : ℕ) → IsRead m k → IsRead (with_code code left m) k
with_code_keeps [] left m k h = h
with_code_keeps (i ∷ code) left m k h =
    with_code_keeps code (max (left - 1) (most_left i)) (with_instr left i m) k
    (subst (λ (xs : List Bool). slice_index_or xs k true ≡ true) (sym (with_write_read left i (with_reads (reads_of i) m)))
    (with_reads_keeps (reads_of i) m k h))

-- ---- slots set
set_same : (s t : List ℕ) (to x k : ℕ) → length s ≡ length t → slice_index s k ≡ slice_index t k
    → slice_index (slice_set s to x) k ≡ slice_index (slice_set t to x) k
set_same [] [] to x k l e = refl
set_same [] (b ∷ t) to x k l e = absurd (omega (arith, l))
set_same (a ∷ s) [] to x k l e = absurd (omega (arith, l))
set_same (a ∷ s) (b ∷ t) zero x zero l e = refl
set_same (a ∷ s) (b ∷ t) zero x (suc k) l e = e
set_same (a ∷ s) (b ∷ t) (suc to) x zero l e = e
set_same (a ∷ s) (b ∷ t) (suc to) x (suc k) l e = set_same s t to x k (omega (arith, l)) e

set_here : (s t : List ℕ) (to x : ℕ) → length s ≡ length t → slice_index (slice_set s to x) to ≡ slice_index (slice_set t to x) to
set_here [] [] to x l = refl
set_here [] (b ∷ t) to x l = absurd (omega (arith, l))
set_here (a ∷ s) [] to x l = absurd (omega (arith, l))
set_here (a ∷ s) (b ∷ t) zero x l = refl
set_here (a ∷ s) (b ∷ t) (suc to) x l = set_here s t to x (omega (arith, l))

-- ---- steps and instructions on two lists of slots
module _ (s t : List ℕ) where
  abbrev Same : ℕ → Type 0
  Same a = slice_index s a ≡ slice_index t a

  two : (f : ℕ → ℕ → ℕ) (a b : ℕ) → Same a → Same b → f (slice_index s a) (slice_index s b) ≡ f (slice_index t a) (slice_index t b)
  two f a b x y = ap (λ n. f n (slice_index s b)) x ∙ ap (f (slice_index t a)) y

  number_same : (ps : List ℕ) (step : Step) → ((k : ℕ) → length ps ≤ k → Same k) → IsBehind ps step
      → AllByRecursion (λ a. slice_index s a ≡ slice_index t a) (reads step) → number_of step s ≡ number_of step t
  number_same ps (Number m) f h r = refl
  number_same ps (Copy a) f h r = r.0
  number_same ps (Slice a low w) f h r = ap (λ x. part_of x low w) r.0
  number_same ps (And a b) f h r = two (λ x y. bit_and x y) a b r.0 r.1.0
  number_same ps (Or a b) f h r = two (λ x y. bit_or x y) a b r.0 r.1.0
  number_same ps (Xor a b) f h r = two (λ x y. bit_xor x y) a b r.0 r.1.0
  number_same ps (Add a b w) f h r = two (λ x y. (x + y) % 2 ^ w) a b r.0 r.1.0
  number_same ps (Subtract a b w) f h r = two (λ x y. difference x y w) a b r.0 r.1.0
  number_same ps (Less a b) f h r = two (λ x y. truth (nat_lt x y)) a b r.0 r.1.0
  number_same ps (Equal a b) f h r = two (λ x y. truth (x == y)) a b r.0 r.1.0
  number_same ps (LogicalNot a) f h r = ap (λ x. truth (x == 0)) r.0
  number_same ps (Unary op a w) f h r = ap (λ x. unary_number op x w) r.0
  number_same ps (Binary op a b w) f h r = two (λ x y. binary_number op x y w) a b r.0 r.1.0
  number_same ps (Choose c a b) f h r =
      ap (λ x. if x == 0 then slice_index s b else slice_index s a) r.0
      ∙ two (λ x y. if slice_index t c == 0 then y else x) a b r.1.0 r.1.1.0
  number_same ps (Join high low x y) f h r = two (λ m k. side_by_side m k x y) high low r.0 r.1.0
  number_same ps (Repeat m a w) f h r = ap (λ x. repeated m x w) r.0
  number_same ps (Select a i w) f h r = two (λ x y. part_of x y w) a i r.0 r.1.0
  number_same ps (Word first size i) f h r =
      ap (λ x. if nat_lt x size then slice_index s (first + x) else 0) r.0
      ∙ ap (λ x. if nat_lt (slice_index t i) size then x else 0) (f (first + slice_index t i) (omega (arith, h)))

if_same : (b : Bool) (u s v t : List ℕ) (k : ℕ) → slice_index u k ≡ slice_index v k → slice_index s k ≡ slice_index t k
    → slice_index (if b then u else s) k ≡ slice_index (if b then v else t) k
if_same true u s v t k e f = e
if_same false u s v t k e f = f

module _ (s t : List ℕ) (l : length s ≡ length t) where
  put_same : (to low w x y k : ℕ) → slice_index s to ≡ slice_index t to → x ≡ y → slice_index s k ≡ slice_index t k
      → slice_index (put_at s to low w x) k ≡ slice_index (put_at t to low w y) k
  put_same to low w x y k h e f =
      set_same s t to (put_of (slice_index s to) low w x) k l f
      ∙ ap (λ n. slice_index (slice_set t to (put_of n low w x)) k) h
      ∙ ap (λ n. slice_index (slice_set t to (put_of (slice_index t to) low w n)) k) e

  put_from_same : (to low size i j w x y k : ℕ) → slice_index s to ≡ slice_index t to → i ≡ j → x ≡ y
      → slice_index s k ≡ slice_index t k
      → slice_index (put_from s to low size i w x) k ≡ slice_index (put_from t to low size j w y) k
  put_from_same to low size i j w x y k h d e f =
      if_same (nat_lt i size) (put_at s to (low + i) (min w (size - i)) x) s (put_at t to (low + i) (min w (size - i)) y) t k
      (put_same to (low + i) (min w (size - i)) x y k h e f) f
      ∙ ap (λ n. slice_index (put_from t to low size n w y) k) d

  rest_same : (a rest : ℕ) → slice_index s a ≡ slice_index t a → slice_index s a / 2 ^ rest ≡ slice_index t a / 2 ^ rest
  rest_same a rest e = ap (λ x. x / 2 ^ rest) e

  changed_same : (ps : List ℕ) (i : Instr) → ((k : ℕ) → length ps ≤ k → slice_index s k ≡ slice_index t k) → HasWordsBehind ps i
      → AllByRecursion (λ a. slice_index s a ≡ slice_index t a) (reads_of i) → (k : ℕ) → slice_index s k ≡ slice_index t k
      → slice_index (changed i s) k ≡ slice_index (changed i t) k
  changed_same ps (Do to step) f h r k e =
      set_same s t to (number_of step s) k l e
      ∙ ap (λ n. slice_index (slice_set t to n) k) (number_same s t ps step f h r)
  changed_same ps (Put to low w a rest) f h r k e = put_same to low w _ _ k r.0 (rest_same a rest r.1.0) e
  changed_same ps (PutFrom to low size i w a rest) f h r k e =
      put_from_same to low size _ _ w _ _ k r.0 r.1.0 (rest_same a rest r.1.1.0) e
  changed_same ps (PutWord first size i low w a rest) f h r k e =
      let m : ℕ = slice_index s i in
      let x : ℕ = slice_index s a / 2 ^ rest in
      let y : ℕ = slice_index t a / 2 ^ rest in
      if_same (nat_lt m size) (put_at s (first + m) low w x) s (put_at t (first + m) low w y) t k
      (put_same (first + m) low w x y k (f (first + m) (omega (arith, h))) (rest_same a rest r.1.0) e) e
      ∙ ap (λ n. slice_index (if nat_lt n size then put_at t (first + n) low w y else t) k) r.0
  changed_same ps (PutWordFrom first n i size j w a rest) f h r k e =
      let m : ℕ = slice_index s i in
      let x : ℕ = slice_index s a / 2 ^ rest in
      let y : ℕ = slice_index t a / 2 ^ rest in
      let g : ℕ = slice_index t j in
      if_same (nat_lt m n) (put_from s (first + m) 0 size (slice_index s j) w x) s (put_from t (first + m) 0 size g w y) t k
      (put_from_same (first + m) 0 size _ _ w x y k (f (first + m) (omega (arith, h))) r.1.0 (rest_same a rest r.1.1.0) e) e
      ∙ ap (λ o. slice_index (if nat_lt o n then put_from t (first + o) 0 size g w y else t) k) r.0
  changed_same ps (SkipIfZero c n) f h r k e = e
  changed_same ps (Skip n) f h r k e = e

  skips_same : (i : Instr) → AllByRecursion (λ a. slice_index s a ≡ slice_index t a) (reads_of i) → skips i s ≡ skips i t
  skips_same (Do to step) r = refl
  skips_same (Put to low w a rest) r = refl
  skips_same (PutFrom to low size i w a rest) r = refl
  skips_same (PutWord first size i low w a rest) r = refl
  skips_same (PutWordFrom first n i size j w a rest) r = refl
  skips_same (SkipIfZero c n) r = ap (λ x. if x == 0 then n else 0) r.0
  skips_same (Skip n) r = refl

-- ---- code
module _ (ps : List ℕ) (P : ℕ → Type 0) (rest : (k : ℕ) → length ps ≤ k → P k) where
  -- slots are the same where P holds, and where they are surely written
  abbrev Agree : Marks → List ℕ → List ℕ → Type 0
  Agree m s t = (k : ℕ) → (P k ⊎ IsDone m k) → slice_index s k ≡ slice_index t k

  reads_same : (slots : List ℕ) (m : Marks) (s t : List ℕ) → ((k : ℕ) → IsRead (with_reads slots m) k → P k) → Agree m s t
      → AllByRecursion (λ a. slice_index s a ≡ slice_index t a) slots
  reads_same [] m s t f g = tt
  reads_same (a ∷ slots) m s t f g =
      let here : slice_index s a ≡ slice_index t a = ⊎_elim
      (λ (h : IsRead (with_read a m) a). g a (inl (f a (with_reads_keeps slots (with_read a m) a h))))
      (λ (h : IsDone m a). g a (inr h))
      (read_or_done (slice_index_or m.done a true) a m refl) in (
        here,
        reads_same slots (with_read a m) s t f (λ k h. g k (⊎_elim (λ (p : P k). inl p)
            (λ (d : IsDone (with_read a m) k). inr (subst (λ (xs : List Bool). slice_index_or xs k true ≡ true) (with_read_done a m) d)) h)),
      )

  written_same : (left : ℕ) (i : Instr) (m : Marks) (s t : List ℕ) → length s ≡ length t → HasWordsBehind ps i
      → ((k : ℕ) → length ps ≤ k → slice_index s k ≡ slice_index t k)
      → AllByRecursion (λ a. slice_index s a ≡ slice_index t a) (reads_of i) → Agree m s t
      → Agree (with_write left i m) (changed i s) (changed i t)
  written_same zero (Do to step) m s t l h f r g k d =
      either_way k to (slice_index (changed (Do to step) s) k ≡ slice_index (changed (Do to step) t) k)
      (λ e. subst (λ n. slice_index (slice_set s to (number_of step s)) n ≡ slice_index (slice_set t to (number_of step t)) n) (sym e)
      (set_here s t to (number_of step s) l
      ∙ ap (λ n. slice_index (slice_set t to n) to) (number_same s t ps step f h r)))
      (λ n. changed_same s t l ps (Do to step) f h r k (g k (⊎_elim (λ (p : P k). inl p)
      (λ (x : slice_index_or (slice_set m.done to true) k true ≡ true). inr (sym (get_or-set_other m.done to k true true n) ∙ x)) d)))
  written_same zero (Put to low w a q) m s t l h f r g k d = changed_same s t l ps (Put to low w a q) f h r k (g k d)
  written_same zero (PutFrom to low size i w a q) m s t l h f r g k d =
      changed_same s t l ps (PutFrom to low size i w a q) f h r k (g k d)
  written_same zero (PutWord first size i low w a q) m s t l h f r g k d =
      changed_same s t l ps (PutWord first size i low w a q) f h r k (g k d)
  written_same zero (PutWordFrom first n i size j w a q) m s t l h f r g k d =
      changed_same s t l ps (PutWordFrom first n i size j w a q) f h r k (g k d)
  written_same zero (SkipIfZero c n) m s t l h f r g k d = g k d
  written_same zero (Skip n) m s t l h f r g k d = g k d
  written_same (suc left) i m s t l h f r g k d = changed_same s t l ps i f h r k (g k d)

  behind_same : (m : Marks) (s t : List ℕ) → Agree m s t → (k : ℕ) → length ps ≤ k → slice_index s k ≡ slice_index t k
  behind_same m s t g k l = g k (inl (rest k l))

  done_as : (slots : List ℕ) (m : Marks) (s t : List ℕ) → Agree m s t → Agree (with_reads slots m) s t
  done_as slots m s t g k d = g k (⊎_elim (λ (p : P k). inl p)
      (λ (x : IsDone (with_reads slots m) k). inr (subst (λ (xs : List Bool). slice_index_or xs k true ≡ true) (with_reads_done slots m) x)) d)

  skipped_done : (left : ℕ) (i : Instr) (m : Marks) (s t : List ℕ) → 0 < left → Agree m s t → Agree (with_instr left i m) s t
  skipped_done zero i m s t l g = absurd (omega (arith, l))
  skipped_done (suc left) i m s t l g = done_as (reads_of i) m s t g

  code_same : (code : List Instr) (left j : ℕ) (m : Marks) (s t : List ℕ) → length s ≡ length t → j ≤ left
      → AllByRecursion (λ i. HasWordsBehind ps i) code → ((k : ℕ) → IsRead (with_code code left m) k → P k) → Agree m s t
      → Agree (with_code code left m) (exec code j s) (exec code j t)
  code_same [] left j m s t l h b f g = g
  code_same (i ∷ code) left zero m s t l h b f g =
      let now = with_instr left i m in
      let next = max (left - 1) (most_left i) in
      let r = reads_same (reads_of i) m s t (λ k x. f k (with_code_keeps code next now k
      (subst (λ (xs : List Bool). slice_index_or xs k true ≡ true) (sym (with_write_read left i (with_reads (reads_of i) m))) x))) g in
      let few = skips_few i s in
      let long : length (changed i s) ≡ length (changed i t) = changed_long i s ∙ l ∙ sym (changed_long i t) in
      let done = written_same left i (with_reads (reads_of i) m) s t l b.0 (behind_same m s t g) r (done_as (reads_of i) m s t g) in
      let whole = code_same code next (skips i s) now (changed i s) (changed i t) long (omega (arith, few)) b.1 f done in
      λ k d. whole k d ∙ ap (λ n. slice_index (exec code n (changed i t)) k) (skips_same s t l i r)
  code_same (i ∷ code) left (suc j) m s t l h b f g =
      code_same code (max (left - 1) (most_left i)) j (with_instr left i m) s t l (omega (arith, h)) b.1 f
      (skipped_done left i m s t (omega (arith, h)) g)

map_same : (s t slots : List ℕ) → AllByRecursion (λ a. slice_index s a ≡ slice_index t a) slots → map (slice_index s) slots ≡ map (slice_index t) slots
map_same s t [] h = refl
map_same s t (a ∷ slots) h =
    ap (λ x. x ∷ map (slice_index s) slots) h.0 ∙ ap (λ (xs : List ℕ). slice_index t a ∷ xs) (map_same s t slots h.1)

long_by : (b : Bool) (a : ℕ) (m : Marks) → length (if b then m else record { read = slice_set m.read a true; done = m.done }).read ≡ length m.read
long_by true a m = refl
long_by false a m = length-set m.read a true

with_read_long : (a : ℕ) (m : Marks) → length (with_read a m).read ≡ length m.read
with_read_long a m = long_by (slice_index_or m.done a true) a m

with_reads_long : (slots : List ℕ) (m : Marks) → length (with_reads slots m).read ≡ length m.read
with_reads_long [] m = refl
with_reads_long (a ∷ slots) m = with_reads_long slots (with_read a m) ∙ with_read_long a m

with_code_long : (code : List Instr) (left : ℕ) (m : Marks) → length (with_code code left m).read ≡ length m.read
with_code_long [] left m = refl
with_code_long (i ∷ code) left m =
    with_code_long code (max (left - 1) (most_left i)) (with_instr left i m)
    ∙ ap (λ (xs : List Bool). length xs) (with_write_read left i (with_reads (reads_of i) m)) ∙ with_reads_long (reads_of i) m

-- lists that are the same behind a place
pub drop_same : (n : ℕ) (s t : List ℕ) → drop n s ≡ drop n t → (k : ℕ) → n ≤ k → slice_index s k ≡ slice_index t k
drop_same n s t e k l =
    let j : n + (k - n) ≡ k = omega (arith, l) in
    ap (slice_index s) (sym j) ∙ sym (get_or-drop n s (k - n) 0) ∙ ap (λ (xs : List ℕ). slice_index xs (k - n)) e
    ∙ get_or-drop n t (k - n) 0 ∙ ap (slice_index t) j

pub same_drop : (n : ℕ) (s t : List ℕ) → length s ≡ length t → ((k : ℕ) → n ≤ k → slice_index s k ≡ slice_index t k) → drop n s ≡ drop n t
same_drop n s t l f =
    same_number_lists (drop n s) (drop n t) (length-drop n s ∙ ap (λ k. k - n) l ∙ sym (length-drop n t)) (λ i m.
    get_or-drop n s i 0 ∙ f (n + i) (omega arith) ∙ sym (get_or-drop n t i 0))

in_default : (xs : List ℕ) (k d : ℕ) → k < length xs → get_or xs k d ≡ slice_index xs k
in_default [] k d l = absurd (omega (arith, l))
in_default (x ∷ xs) zero d l = refl
in_default (x ∷ xs) (suc k) d l = in_default xs k d (omega (arith, l))

not_done : (n : ℕ) (m : Marks) → m ≡ record { read = replicate n false; done = replicate n false } → (k : ℕ) → k < n → IsDone m k → ⊥
not_done n m e k l x =
    let f : false ≡ true = sym (get_or-replicate n k false true l) ∙ ap (λ (o : Marks). slice_index_or o.done k true) (sym e) ∙ x in
    absurd cc

-- the places of marks
set_from : (k n : ℕ) (xs : List Bool) → k + length xs ≤ n → AllByRecursion (λ m. m < n) (set_places k xs)
set_from k n [] h = tt
set_from k n (true ∷ xs) h = (omega (arith, h), set_from (k + 1) n xs (omega (arith, h)))
set_from k n (false ∷ xs) h = set_from (k + 1) n xs (omega (arith, h))

set_within : (xs : List Bool) → All (λ m. m < length xs) (set_places 0 xs)
set_within xs = All-from_recursion (λ m. m < length xs) (set_places 0 xs) (set_from 0 (length xs) xs (omega arith))

set_at : (P : ℕ → Type 0) (k : ℕ) (xs : List Bool) → AllByRecursion P (set_places k xs)
    → (i : ℕ) → i < length xs → slice_index_or xs i true ≡ true → P (k + i)
set_at P k [] h i l e = absurd (omega (arith, l))
set_at P k (true ∷ xs) h zero l e = subst P (omega arith) h.0
set_at P k (true ∷ xs) h (suc i) l e = subst P (omega arith) (set_at P (k + 1) xs h.1 i (omega (arith, l)) e)
set_at P k (false ∷ xs) h zero l e = absurd cc
set_at P k (false ∷ xs) h (suc i) l e = subst P (omega arith) (set_at P (k + 1) xs h i (omega (arith, l)) e)

set_each : (P : ℕ → Type 0) (xs : List Bool) → All P (set_places 0 xs) → (i : ℕ) → i < length xs → slice_index_or xs i true ≡ true → P i
set_each P xs h i l e = subst P (omega arith) (set_at P 0 xs (recursion_from_All P (set_places 0 xs) h) i l e)

module _ (ps : List ℕ) (code : List Instr) (nets : List ℕ) where
  abbrev pub last : Marks → Marks
  last first = with_reads ps (with_code code 0 first)

  pub last_long : (first : Marks) → first ≡ record { read = replicate (length ps) false; done = replicate (length ps) false }
      → length (last first).read ≡ length ps
  last_long first e =
      with_reads_long ps (with_code code 0 first) ∙ with_code_long code 0 first ∙ ap (λ (m : Marks). length m.read) e
      ∙ length-replicate (length ps) false

  pub enough : (first : Marks) → first ≡ record { read = replicate (length ps) false; done = replicate (length ps) false }
      → All (λ (i : Instr). HasWordsBehind ps i) code → nets ≡ set_places 0 (last first).read → IsEnough ps code nets
  enough first e words are =
      let long = last_long first e in
      record {
        within = subst (λ (ms : List ℕ). All (λ m. m < length ps) ms) (sym are)
            (subst (λ n. All (λ m. m < n) (set_places 0 (last first).read)) long (set_within (last first).read));
        same = λ s t l few rest agree.
            let each = λ (k : ℕ) (h : k < length (last first).read) (x : IsRead (last first) k).
            set_each (λ m. slice_index s m ≡ slice_index t m) (last first).read
            (subst (λ (ms : List ℕ). All (λ m. slice_index s m ≡ slice_index t m) ms) are agree) k h x in
            let P : ℕ → Type 0 = λ k. slice_index s k ≡ slice_index t k in
            let behind : (k : ℕ) → length ps ≤ k → P k = drop_same (length ps) s t rest in
            let needs : (k : ℕ) → IsRead (last first) k → P k = λ k x. ⊎_elim
            (λ (a : k < length ps). each k (omega (arith, a, long)) x) (λ (b : length ps ≤ k). behind k b)
            (cases_lt k (length ps)) in
            let start : Agree ps P behind first s t = λ k d. ⊎_elim (λ (p : P k). p)
            (λ (x : IsDone first k). ⊎_elim
            (λ (a : k < length ps). absurd (not_done (length ps) first e k a x))
            (λ (b : length ps ≤ k). behind k b) (cases_lt k (length ps))) d in
            let end = code_same ps P behind code 0 0 first s t l (omega arith) (recursion_from_All (λ (i : Instr). HasWordsBehind ps i) code words)
            (λ k x. needs k (with_reads_keeps ps (with_code code 0 first) k x)) start in
            let seen = reads_same ps P behind ps (with_code code 0 first) (exec code 0 s) (exec code 0 t) needs end in
            let longs : length (exec code 0 s) ≡ length (exec code 0 t) = exec_long code 0 s ∙ l ∙ sym (exec_long code 0 t) in
            ap (λ (xs : List ℕ). xs ++ drop (length ps) (exec code 0 s)) (map_same (exec code 0 s) (exec code 0 t) ps seen)
            ∙ ap (λ (xs : List ℕ). map (slice_index (exec code 0 t)) ps ++ xs)
            (same_drop (length ps) (exec code 0 s) (exec code 0 t) longs (λ k h. end k (inl (behind k h))));
      }

  pub all_enough : length nets ≡ length ps → ((i : ℕ) → i < length ps → slice_index nets i ≡ i) → IsEnough ps code nets
  all_enough long stand = record {
    within = λ k d h.
        let e : get_or nets k d ≡ k = in_default nets k d h ∙ stand k (omega (arith, h, long)) in omega (arith, e, h, long);
    same = λ s t l few rest agree.
        ap (λ (xs : List ℕ). through ps (exec code 0 xs)) (same_number_lists s t l (λ k h. ⊎_elim
        (λ (a : k < length ps).
        subst (λ n. slice_index s n ≡ slice_index t n) (stand k a) (agree k 0 (omega (arith, a, long))))
        (λ (b : length ps ≤ k). drop_same (length ps) s t rest k b) (cases_lt k (length ps))));
  }

-- ---- the slot that an instruction may change
if_other : (b : Bool) (u s : List ℕ) (k : ℕ) → slice_index u k ≡ slice_index s k → slice_index (if b then u else s) k ≡ slice_index s k
if_other true u s k e = e
if_other false u s k e = refl

word_other : (b : Bool) (to : ℕ) (u s : List ℕ) (k : ℕ) → (k ≢ to → slice_index u k ≡ slice_index s k) → k ≢ (if b then to else 0)
    → slice_index (if b then u else s) k ≡ slice_index s k
word_other true to u s k h n = h n
word_other false to u s k h n = refl

put_from_other : (s : List ℕ) (to low size i w x k : ℕ) → k ≢ to → slice_index (put_from s to low size i w x) k ≡ slice_index s k
put_from_other s to low size i w x k n =
    if_other (nat_lt i size) (put_at s to (low + i) (min w (size - i)) x) s k (get_or-set_other s to k _ 0 n)

target_only : (i : Instr) (s : List ℕ) (k : ℕ) → k ≢ target i s → slice_index (changed i s) k ≡ slice_index s k
target_only (Do to step) s k n = get_or-set_other s to k _ 0 n
target_only (Put to low w a rest) s k n = get_or-set_other s to k _ 0 n
target_only (PutFrom to low size i w a rest) s k n = put_from_other s to low size _ w _ k n
target_only (PutWord first size i low w a rest) s k n =
    let m : ℕ = slice_index s i in
    word_other (nat_lt m size) (first + m) (put_at s (first + m) low w (slice_index s a / 2 ^ rest)) s k
    (λ h. get_or-set_other s (first + m) k _ 0 h) n
target_only (PutWordFrom first o i size j w a rest) s k n =
    let m : ℕ = slice_index s i in
    word_other (nat_lt m o) (first + m) (put_from s (first + m) 0 size (slice_index s j) w (slice_index s a / 2 ^ rest)) s k
    (λ h. put_from_other s (first + m) 0 size _ w _ k h) n
target_only (SkipIfZero c m) s k n = refl
target_only (Skip m) s k n = refl

front_kept : (limit : ℕ) (i : Instr) (s : List ℕ)
    → (if nat_lt (target i s) limit then slice_index (changed i s) (target i s) else 0)
    ≡ (if nat_lt (target i s) limit then slice_index s (target i s) else 0)
    → take limit (changed i s) ≡ take limit s
front_kept limit i s e =
    let long = changed_long i s in
    let a = length-take limit (changed i s) in
    let b = length-take limit s in
    same_number_lists (take limit (changed i s)) (take limit s) (omega (arith, a, b, long)) (λ k m.
    let here : k < limit = omega (arith, m, a) in
    get_or-take limit (changed i s) k 0 here
    ∙ either_way k (target i s) (slice_index (changed i s) k ≡ slice_index s k)
    (λ h.
    let t : nat_lt (target i s) limit ≡ true = lt-ltb (target i s) limit (omega (arith, here, h)) in
    subst (λ n. slice_index (changed i s) n ≡ slice_index s n) (sym h)
    (ap (λ (b : Bool). if b then slice_index (changed i s) (target i s) else 0) (sym t) ∙ e
    ∙ ap (λ (b : Bool). if b then slice_index s (target i s) else 0) t))
    (λ n. target_only i s k n)
    ∙ sym (get_or-take limit s k 0 here))

pub noted : (limit : ℕ) (i : Instr) (s t : List ℕ) (to before after : ℕ) → to ≡ target i s
    → before ≡ (if nat_lt to limit then slice_index s to else 0) → t ≡ changed i s
    → after ≡ (if nat_lt to limit then slice_index t to else 0) → after ≡ before → take limit t ≡ take limit s
noted limit i s t to before after d b e a h =
    ap (take limit) e ∙ front_kept limit i s
    (ap (λ n. if nat_lt n limit then slice_index (changed i s) n else 0) (sym d)
    ∙ ap (λ (u : List ℕ). if nat_lt to limit then slice_index u to else 0) (sym e) ∙ sym a ∙ h ∙ b
    ∙ ap (λ n. if nat_lt n limit then slice_index s n else 0) d)
