-- Nets read in place: what is seen in slots, and code that reads so, run.
use Rattle.std.proofs.Common.{◌≡◌, ◌≢◌, ℕ, zero, suc, ◌+◌, ◌-◌, ◌/◌, ◌%◌, ◌^◌, ◌<◌, ◌≤◌, ◌==◌, min, max, nat_lt, Bool, true, false}
use Rattle.std.proofs.Common.{if◌then◌else◌, bit_and, bit_or, bit_xor, List, [], ◌∷◌, ◌++◌, All, length, length-append, get_or, map, drop}
use Rattle.std.proofs.Common.{slice_index, slice_set, ⊎_elim, refl, ap, sym, subst, ◌∙◌, arith}
use Rattle.std.proofs.Common.{Option, Some, MatchOption}
use Rattle.std.proofs.lemmas.Bool.{cases_lt, lt-ltb, le-ltb}
use Rattle.std.proofs.lemmas.List.{length-map, length-drop, length-set, get_or-set_same, get_or-set_other}
use Rattle.std.proofs.lemmas.Grind.{same_number_lists}
use Rattle.std.proofs.Math.ListN.{get_or-append}
use Rattle.std.proofs.Math.Seq.{get_or-append_seam}
use Rattle.net_design.specs.vidi_bits.Number.{part_of, put_of, difference, repeated, side_by_side, truth}
use Rattle.net_design.specs.vidi_bits.Operators.{unary_number, binary_number}
use Rattle.net_instr.specs.declared.instr.Step.{Step}
use Rattle.net_instr.specs.declared.instr.Step.TheVariants.{Number, Copy, Slice, And, Or, Xor, Add, Subtract, Less, Equal, LogicalNot}
use Rattle.net_instr.specs.declared.instr.Step.TheVariants.{Unary, Binary, Choose, Join, Repeat, Select, Word}
use Rattle.net_instr.specs.declared.instr.Instr.{Instr}
use Rattle.net_instr.specs.declared.instr.Instr.TheVariants.{Do, Put, PutFrom, PutWord, PutWordFrom, SkipIfZero, Skip}
use Rattle.net_instr.specs.Machine.{number_of, put_at, put_from, changed, skips, exec, IsStep, IsInstr}
use Rattle.net_instr.specs.InPlace.{place, through, moved, moved_instr, IsFree, IsBehind, IsApart, most_left, pending}
use Rattle.net_instr.specs.InPlace.{ArePlaces, Follows, IsInPlace}

-- ---- where slots are read
pub at_net : (ps : List ℕ) (i : ℕ) → i < length ps → place ps i ≡ slice_index ps i
at_net ps i l = ap (λ b. if b then slice_index ps i else i) (lt-ltb i (length ps) l)

pub at_rest : (ps : List ℕ) (i : ℕ) → length ps ≤ i → place ps i ≡ i
at_rest ps i l = ap (λ b. if b then slice_index ps i else i) (le-ltb i (length ps) l)

front_seen : (f : ℕ → ℕ) (ps rest : List ℕ) (i : ℕ) → i < length ps → slice_index (map f ps ++ rest) i ≡ f (slice_index ps i)
front_seen f [] rest i l = absurd (omega (arith, l))
front_seen f (p ∷ ps) rest zero l = refl
front_seen f (p ∷ ps) rest (suc i) l = front_seen f ps rest i (omega (arith, l))

rest_seen : (f : ℕ → ℕ) (ps s : List ℕ) (i : ℕ) → length ps ≤ length s → length ps ≤ i
    → slice_index (map f ps ++ drop (length ps) s) i ≡ slice_index s i
rest_seen f [] s i l h = refl
rest_seen f (p ∷ ps) [] i l h = absurd (omega (arith, l))
rest_seen f (p ∷ ps) (x ∷ s) zero l h = absurd (omega (arith, h))
rest_seen f (p ∷ ps) (x ∷ s) (suc i) l h = rest_seen f ps s i (omega (arith, l)) (omega (arith, h))

pub seen_at : (ps s : List ℕ) (i : ℕ) → length ps ≤ length s → slice_index (through ps s) i ≡ slice_index s (place ps i)
seen_at ps s i l = ⊎_elim
    (λ (a : i < length ps). front_seen (slice_index s) ps (drop (length ps) s) i a ∙ ap (slice_index s) (sym (at_net ps i a)))
    (λ (b : length ps ≤ i). rest_seen (slice_index s) ps s i l b ∙ ap (slice_index s) (sym (at_rest ps i b)))
    (cases_lt i (length ps))

pub seen_long : (ps s : List ℕ) → length ps ≤ length s → length (through ps s) ≡ length s
seen_long ps s l =
    let a = length-append (map (slice_index s) ps) (drop (length ps) s) in
    let b = length-map ps (slice_index s) in
    let c = length-drop (length ps) s in
    omega (arith, a, b, c, l)

-- a slot set
same_set : (xs : List ℕ) (t i x : ℕ) → i ≡ t → i < length xs → slice_index (slice_set xs t x) i ≡ x
same_set xs t i x e l = ap (slice_index (slice_set xs t x)) e ∙ get_or-set_same xs t x 0 (subst (λ k. k < length xs) e l)

pub either_way : (i t : ℕ) (P : Type 0) → (i ≡ t → P) → (i ≢ t → P) → P
either_way i t P f g = ⊎_elim
    (λ (a : i < t). g (λ e. absurd (omega (arith, a, e))))
    (λ (b : t ≤ i). ⊎_elim (λ (c : t < i). g (λ e. absurd (omega (arith, c, e)))) (λ (d : i ≤ t). f (omega (arith, b, d))) (cases_lt t i))
    (cases_lt i t)

pub set_seen : (ps s : List ℕ) (t x : ℕ) → length ps ≤ length s → IsFree ps t → slice_set (through ps s) t x ≡ through ps (slice_set s t x)
set_seen ps s t x l f =
    let u : List ℕ = slice_set s t x in
    let lu : length ps ≤ length u = (let e = length-set s t x in omega (arith, e, l)) in
    let long : length (slice_set (through ps s) t x) ≡ length s = length-set (through ps s) t x ∙ seen_long ps s l in
    let longs : length (slice_set (through ps s) t x) ≡ length (through ps u) = long ∙ sym (length-set s t x) ∙ sym (seen_long ps u lu) in
    same_number_lists (slice_set (through ps s) t x) (through ps u) longs (λ i h.
    let here : i < length s = omega (arith, h, long) in
    either_way i t (slice_index (slice_set (through ps s) t x) i ≡ slice_index (through ps u) i)
    (λ e.
    let p : place ps i ≡ t = (f i).1 e in
    let there : place ps i < length s = omega (arith, p, e, here) in
    same_set (through ps s) t i x e (let k = seen_long ps s l in omega (arith, k, here))
    ∙ sym (same_set s t (place ps i) x p there) ∙ sym (seen_at ps u i lu))
    (λ n.
    get_or-set_other (through ps s) t i x 0 n ∙ seen_at ps s i l
    ∙ sym (get_or-set_other s t (place ps i) x 0 (λ e. n ((f i).0 e))) ∙ sym (seen_at ps u i lu)))

-- a net that copies another, read in its place from then on
place_set : (ps : List ℕ) (m q i : ℕ) → m < length ps → i ≢ m → place (slice_set ps m q) i ≡ place ps i
place_set ps m q i l n = ⊎_elim
    (λ (a : i < length ps).
    at_net (slice_set ps m q) i (let e = length-set ps m q in omega (arith, e, a)) ∙ get_or-set_other ps m i q 0 n ∙ sym (at_net ps i a))
    (λ (b : length ps ≤ i). at_rest (slice_set ps m q) i (let e = length-set ps m q in omega (arith, e, b)) ∙ sym (at_rest ps i b))
    (cases_lt i (length ps))

place_here : (ps : List ℕ) (m q i : ℕ) → m < length ps → i ≡ m → place (slice_set ps m q) i ≡ q
place_here ps m q i l e =
    let long = length-set ps m q in
    at_net (slice_set ps m q) i (omega (arith, long, l, e)) ∙ same_set ps m i q e (omega (arith, l, e))

pub copy_seen : (ps s : List ℕ) (m f : ℕ) → length ps ≤ length s → m < length ps
    → slice_set (through ps s) m (slice_index (through ps s) f) ≡ through (slice_set ps m (place ps f)) s
copy_seen ps s m f l inside =
    let q : ℕ = place ps f in
    let x : ℕ = slice_index (through ps s) f in
    let qs : List ℕ = slice_set ps m q in
    let lq : length qs ≤ length s = (let e = length-set ps m q in omega (arith, e, l)) in
    let long : length (slice_set (through ps s) m x) ≡ length s = length-set (through ps s) m x ∙ seen_long ps s l in
    same_number_lists (slice_set (through ps s) m x) (through qs s) (long ∙ sym (seen_long qs s lq)) (λ i h.
    let here : i < length s = omega (arith, h, long) in
    either_way i m (slice_index (slice_set (through ps s) m x) i ≡ slice_index (through qs s) i)
    (λ e.
    same_set (through ps s) m i x e (let k = seen_long ps s l in omega (arith, k, here)) ∙ seen_at ps s f l
    ∙ ap (slice_index s) (sym (place_here ps m q i inside e)) ∙ sym (seen_at qs s i lq))
    (λ n.
    get_or-set_other (through ps s) m i x 0 n ∙ seen_at ps s i l
    ∙ ap (slice_index s) (sym (place_set ps m q i inside n)) ∙ sym (seen_at qs s i lq)))

-- ---- steps and instructions
if_in : (b : Bool) (x y z : ℕ) → (b ≡ true → x ≡ y) → (if b then x else z) ≡ (if b then y else z)
if_in true x y z h = h refl
if_in false x y z h = refl

module _ (ps s : List ℕ) (l : length ps ≤ length s) where
  at_seen : (i : ℕ) → slice_index s (place ps i) ≡ slice_index (through ps s) i
  at_seen i = sym (seen_at ps s i l)

  two : (f : ℕ → ℕ → ℕ) (a b : ℕ) → f (slice_index s (place ps a)) (slice_index s (place ps b))
      ≡ f (slice_index (through ps s) a) (slice_index (through ps s) b)
  two f a b = ap (λ x. f x (slice_index s (place ps b))) (at_seen a) ∙ ap (f (slice_index (through ps s) a)) (at_seen b)

  pub number_seen : (step : Step) → IsBehind ps step → number_of (moved ps step) s ≡ number_of step (through ps s)
  number_seen (Number n) h = refl
  number_seen (Copy a) h = at_seen a
  number_seen (Slice a low w) h = ap (λ x. part_of x low w) (at_seen a)
  number_seen (And a b) h = two (λ x y. bit_and x y) a b
  number_seen (Or a b) h = two (λ x y. bit_or x y) a b
  number_seen (Xor a b) h = two (λ x y. bit_xor x y) a b
  number_seen (Add a b w) h = two (λ x y. (x + y) % 2 ^ w) a b
  number_seen (Subtract a b w) h = two (λ x y. difference x y w) a b
  number_seen (Less a b) h = two (λ x y. truth (nat_lt x y)) a b
  number_seen (Equal a b) h = two (λ x y. truth (x == y)) a b
  number_seen (LogicalNot a) h = ap (λ x. truth (x == 0)) (at_seen a)
  number_seen (Unary op a w) h = ap (λ x. unary_number op x w) (at_seen a)
  number_seen (Binary op a b w) h = two (λ x y. binary_number op x y w) a b
  number_seen (Choose c a b) h =
      ap (λ x. if x == 0 then slice_index s (place ps b) else slice_index s (place ps a)) (at_seen c)
      ∙ two (λ x y. if slice_index (through ps s) c == 0 then y else x) a b
  number_seen (Join high low x y) h = two (λ m n. side_by_side m n x y) high low
  number_seen (Repeat n a w) h = ap (λ x. repeated n x w) (at_seen a)
  number_seen (Select a i w) h = two (λ x y. part_of x y w) a i
  number_seen (Word first size i) h =
      ap (λ x. if nat_lt x size then slice_index s (first + x) else 0) (at_seen i)
      ∙ ap (λ x. if nat_lt (slice_index (through ps s) i) size then x else 0)
      (ap (slice_index s) (sym (at_rest ps (first + slice_index (through ps s) i) (omega (arith, h))))
      ∙ at_seen (first + slice_index (through ps s) i))

  pub skips_seen : (i : Instr) → skips (moved_instr ps i) s ≡ skips i (through ps s)
  skips_seen (Do to step) = refl
  skips_seen (Put to low w a rest) = refl
  skips_seen (PutFrom to low size i w a rest) = refl
  skips_seen (PutWord first size i low w a rest) = refl
  skips_seen (PutWordFrom first n i size j w a rest) = refl
  skips_seen (SkipIfZero c n) = ap (λ x. if x == 0 then n else 0) (at_seen c)
  skips_seen (Skip n) = refl

-- slots behind the nets are seen where they stand, and alone
pub behind_free : (ps : List ℕ) (t : ℕ) → ((i : ℕ) → i < length ps → slice_index ps i < length ps) → length ps ≤ t → IsFree ps t
behind_free ps t below l = λ i. ⊎_elim
    (λ (a : i < length ps).
    let b = below i a in
    (λ e. let p : slice_index ps i ≡ t = sym (at_net ps i a) ∙ e in absurd (omega (arith, b, p, l)), λ e. absurd (omega (arith, a, e, l))))
    (λ (b : length ps ≤ i). (λ e. sym (at_rest ps i b) ∙ e, λ e. at_rest ps i b ∙ e))
    (cases_lt i (length ps))

module _ (ps : List ℕ) (below : (i : ℕ) → i < length ps → slice_index ps i < length ps) (s : List ℕ) (l : length ps ≤ length s) where
  put_seen : (t low w x y : ℕ) → IsFree ps t → x ≡ y → through ps (put_at s t low w x) ≡ put_at (through ps s) t low w y
  put_seen t low w x y f e =
      sym (set_seen ps s t (put_of (slice_index s t) low w x) l f)
      ∙ ap (λ n. slice_set (through ps s) t (put_of (slice_index s n) low w x)) (sym ((f t).1 refl))
      ∙ ap (λ n. slice_set (through ps s) t (put_of n low w x)) (at_seen ps s l t)
      ∙ ap (λ n. slice_set (through ps s) t (put_of (slice_index (through ps s) t) low w n)) e

  seen_if : (b : Bool) (u : List ℕ) (v : List ℕ) → through ps u ≡ v → through ps (if b then u else s) ≡ (if b then v else through ps s)
  seen_if true u v h = h
  seen_if false u v h = refl

  put_from_seen : (t low size i j w x y : ℕ) → IsFree ps t → i ≡ j → x ≡ y
      → through ps (put_from s t low size i w x) ≡ put_from (through ps s) t low size j w y
  put_from_seen t low size i j w x y f d e =
      seen_if (nat_lt i size) (put_at s t (low + i) (min w (size - i)) x) (put_at (through ps s) t (low + i) (min w (size - i)) y)
      (put_seen t (low + i) (min w (size - i)) x y f e)
      ∙ ap (λ k. put_from (through ps s) t low size k w y) d

  rest_at : (a rest : ℕ) → slice_index s (place ps a) / 2 ^ rest ≡ slice_index (through ps s) a / 2 ^ rest
  rest_at a rest = ap (λ x. x / 2 ^ rest) (at_seen ps s l a)

  pub changed_seen : (i : Instr) → IsApart ps i → through ps (changed (moved_instr ps i) s) ≡ changed i (through ps s)
  changed_seen (Do to step) h =
      sym (set_seen ps s to (number_of (moved ps step) s) l h.0) ∙ ap (slice_set (through ps s) to) (number_seen ps s l step h.1)
  changed_seen (Put to low w a rest) h = put_seen to low w _ _ h (rest_at a rest)
  changed_seen (PutFrom to low size i w a rest) h = put_from_seen to low size _ _ w _ _ h (at_seen ps s l i) (rest_at a rest)
  changed_seen (PutWord first size i low w a rest) h =
      let k : ℕ = slice_index s (place ps i) in
      let x : ℕ = slice_index s (place ps a) / 2 ^ rest in
      let y : ℕ = slice_index (through ps s) a / 2 ^ rest in
      seen_if (nat_lt k size) (put_at s (first + k) low w x) (put_at (through ps s) (first + k) low w y)
      (put_seen (first + k) low w x y (behind_free ps (first + k) below (omega (arith, h))) (rest_at a rest))
      ∙ ap (λ n. if nat_lt n size then put_at (through ps s) (first + n) low w y else through ps s) (at_seen ps s l i)
  changed_seen (PutWordFrom first n i size j w a rest) h =
      let k : ℕ = slice_index s (place ps i) in
      let x : ℕ = slice_index s (place ps a) / 2 ^ rest in
      let y : ℕ = slice_index (through ps s) a / 2 ^ rest in
      let g : ℕ = slice_index (through ps s) j in
      seen_if (nat_lt k n) (put_from s (first + k) 0 size (slice_index s (place ps j)) w x) (put_from (through ps s) (first + k) 0 size g w y)
      (put_from_seen (first + k) 0 size _ _ w x y (behind_free ps (first + k) below (omega (arith, h))) (at_seen ps s l j) (rest_at a rest))
      ∙ ap (λ m. if nat_lt m n then put_from (through ps s) (first + m) 0 size g w y else through ps s) (at_seen ps s l i)
  changed_seen (SkipIfZero c n) h = refl
  changed_seen (Skip n) h = refl

-- ---- code, one instruction more
long_if : (b : Bool) (u s : List ℕ) → length u ≡ length s → length (if b then u else s) ≡ length s
long_if true u s h = h
long_if false u s h = refl

put_long : (s : List ℕ) (t low size i w x : ℕ) → length (put_from s t low size i w x) ≡ length s
put_long s t low size i w x =
    long_if (nat_lt i size) (put_at s t (low + i) (min w (size - i)) x) s (length-set s t (put_of (slice_index s t) (low + i)
    (min w (size - i)) x))

pub changed_long : (i : Instr) (s : List ℕ) → length (changed i s) ≡ length s
changed_long (Do to step) s = length-set s to (number_of step s)
changed_long (Put to low w a rest) s = length-set s to _
changed_long (PutFrom to low size i w a rest) s = put_long s to low size _ w _
changed_long (PutWord first size i low w a rest) s =
    let k : ℕ = slice_index s i in
    long_if (nat_lt k size) (put_at s (first + k) low w (slice_index s a / 2 ^ rest)) s (length-set s (first + k) _)
changed_long (PutWordFrom first n i size j w a rest) s =
    let k : ℕ = slice_index s i in
    long_if (nat_lt k n) (put_from s (first + k) 0 size (slice_index s j) w (slice_index s a / 2 ^ rest)) s (put_long s (first + k) 0 size
    (slice_index s j) w _)
changed_long (SkipIfZero c n) s = refl
changed_long (Skip n) s = refl

pub exec_long : (code : List Instr) (k : ℕ) (s : List ℕ) → length (exec code k s) ≡ length s
exec_long [] k s = refl
exec_long (i ∷ code) zero s = exec_long code (skips i s) (changed i s) ∙ changed_long i s
exec_long (i ∷ code) (suc k) s = exec_long code k s

exec_both : (xs ys : List Instr) (k : ℕ) (s : List ℕ) → exec (xs ++ ys) k s ≡ exec ys (pending xs k s) (exec xs k s)
exec_both [] ys k s = refl
exec_both (i ∷ xs) ys zero s = exec_both xs ys (skips i s) (changed i s)
exec_both (i ∷ xs) ys (suc k) s = exec_both xs ys k s

pending_both : (xs ys : List Instr) (k : ℕ) (s : List ℕ) → pending (xs ++ ys) k s ≡ pending ys (pending xs k s) (exec xs k s)
pending_both [] ys k s = refl
pending_both (i ∷ xs) ys zero s = pending_both xs ys (skips i s) (changed i s)
pending_both (i ∷ xs) ys (suc k) s = pending_both xs ys k s

few_if : (b : Bool) (n : ℕ) → (if b then n else 0) ≤ n
few_if true n = omega arith
few_if false n = omega arith

pub skips_few : (i : Instr) (s : List ℕ) → skips i s ≤ most_left i
skips_few (Do to step) s = omega arith
skips_few (Put to low w a rest) s = omega arith
skips_few (PutFrom to low size i w a rest) s = omega arith
skips_few (PutWord first size i low w a rest) s = omega arith
skips_few (PutWordFrom first n i size j w a rest) s = omega arith
skips_few (SkipIfZero c n) s = few_if (slice_index s c == 0) n
skips_few (Skip n) s = omega arith

same_most : (ps : List ℕ) (i : Instr) → most_left (moved_instr ps i) ≡ most_left i
same_most ps (Do to step) = refl
same_most ps (Put to low w a rest) = refl
same_most ps (PutFrom to low size i w a rest) = refl
same_most ps (PutWord first size i low w a rest) = refl
same_most ps (PutWordFrom first n i size j w a rest) = refl
same_most ps (SkipIfZero c n) = refl
same_most ps (Skip n) = refl

module _ (ps : List ℕ) (below : (i : ℕ) → i < length ps → slice_index ps i < length ps) (i : Instr) (apart : IsApart ps i) where
  one_same : (k : ℕ) (u : List ℕ) → length ps ≤ length u → through ps (exec (moved_instr ps i ∷ []) k u) ≡ exec (i ∷ []) k (through ps u)
  one_same zero u l = changed_seen ps below u l i apart
  one_same (suc k) u l = refl

  one_left : (k : ℕ) (u : List ℕ) → length ps ≤ length u → pending (moved_instr ps i ∷ []) k u ≡ pending (i ∷ []) k (through ps u)
  one_left zero u l = skips_seen ps u l i
  one_left (suc k) u l = refl

one_few : (i : Instr) (k most : ℕ) (u : List ℕ) → k ≤ most → pending (i ∷ []) k u ≤ max (most - 1) (most_left i)
one_few i zero most u l = let h = skips_few i u in omega (arith, h)
one_few i (suc k) most u l = omega (arith, l)

pub follows_nothing : (ps : List ℕ) → Follows ps ps 0 [] []
follows_nothing ps = record { long = refl; same = λ s l. refl; left = λ s l. refl; few = λ s l. omega arith }

pub follows_more : (first ps : List ℕ) (most : ℕ) (xs out : List Instr) (i : Instr)
    → ((k : ℕ) → k < length ps → slice_index ps k < length ps) → IsApart ps i → Follows first ps most xs out
    → Follows first ps (max (most - 1) (most_left i)) (xs ++ i ∷ []) (out ++ moved_instr ps i ∷ [])
follows_more first ps most xs out i below apart f =
    let j : Instr = moved_instr ps i in
    let long = f.long in
    let there : (s : List ℕ) → length first ≤ length s → length ps ≤ length (exec out 0 s)
    = λ s l. (let e = exec_long out 0 s in omega (arith, e, l, long)) in
    record {
      long = f.long;
      same = λ s l.
          ap (through ps) (exec_both out (j ∷ []) 0 s)
          ∙ one_same ps below i apart (pending out 0 s) (exec out 0 s) (there s l)
          ∙ ap (λ k. exec (i ∷ []) k (through ps (exec out 0 s))) (f.left s l)
          ∙ ap (exec (i ∷ []) (pending xs 0 (through first s))) (f.same s l)
          ∙ sym (exec_both xs (i ∷ []) 0 (through first s));
      left = λ s l.
          pending_both out (j ∷ []) 0 s
          ∙ one_left ps below i apart (pending out 0 s) (exec out 0 s) (there s l)
          ∙ ap (λ k. pending (i ∷ []) k (through ps (exec out 0 s))) (f.left s l)
          ∙ ap (pending (i ∷ []) (pending xs 0 (through first s))) (f.same s l)
          ∙ sym (pending_both xs (i ∷ []) 0 (through first s));
      few = λ s l.
          subst (λ n. n ≤ max (most - 1) (most_left i)) (sym (pending_both out (j ∷ []) 0 s))
          (subst (λ m. pending (j ∷ []) (pending out 0 s) (exec out 0 s) ≤ max (most - 1) m) (same_most ps i)
          (one_few j (pending out 0 s) most (exec out 0 s) (f.few s l)));
    }

pub follows_copy : (first ps : List ℕ) (xs out : List Instr) (m g : ℕ) → m < length ps → Follows first ps 0 xs out
    → Follows first (slice_set ps m (place ps g)) 0 (xs ++ Do m (Copy g) ∷ []) out
follows_copy first ps xs out m g inside f =
    let i : Instr = Do m (Copy g) in
    let long = f.long in
    let none : (s : List ℕ) → length first ≤ length s → pending out 0 s ≡ 0 = λ s l. (let h = f.few s l in omega (arith, h)) in
    let start : (s : List ℕ) → length first ≤ length s → pending xs 0 (through first s) ≡ 0 = λ s l. sym (f.left s l) ∙ none s l in
    record {
      long = length-set ps m (place ps g) ∙ f.long;
      same = λ s l.
          let u : List ℕ = exec out 0 s in
          let there : length ps ≤ length u = (let e = exec_long out 0 s in omega (arith, e, l, long)) in
          sym (copy_seen ps u m g there inside)
          ∙ ap (changed i) (f.same s l)
          ∙ ap (λ k. exec (i ∷ []) k (exec xs 0 (through first s))) (sym (start s l))
          ∙ sym (exec_both xs (i ∷ []) 0 (through first s));
      left = λ s l.
          none s l ∙ ap (λ k. pending (i ∷ []) k (exec xs 0 (through first s))) (sym (start s l))
          ∙ sym (pending_both xs (i ∷ []) 0 (through first s));
      few = f.few;
    }

-- places after a copy
set_or_past : (bs : List Bool) (k : ℕ) → get_or (slice_set bs k true) k true ≡ true
set_or_past [] zero = refl
set_or_past [] (suc k) = refl
set_or_past (b ∷ bs) zero = refl
set_or_past (b ∷ bs) (suc k) = set_or_past bs k

pub places_copy : (ps : List ℕ) (shared marks : List Bool) (m g : ℕ) → ArePlaces ps shared → m < length ps → g < length ps
    → marks ≡ slice_set shared (place ps g) true → ArePlaces (slice_set ps m (place ps g)) marks
places_copy ps shared marks m g p inside from e =
    let q : ℕ = place ps g in
    let is : q ≡ slice_index ps g = at_net ps g from in
    let few = p.below g from in
    let long = length-set ps m q in
    let qs : List ℕ = slice_set ps m q in
    let marked : get_or marks q true ≡ true
    = ap (λ (bs : List Bool). get_or bs q true) e ∙ set_or_past shared q in
    record {
      below = λ i l. either_way i m (slice_index qs i < length qs)
          (λ h. let x = same_set ps m i q h (omega (arith, h, inside)) in omega (arith, x, is, few, long))
          (λ h. let x = get_or-set_other ps m i q 0 h in let b = p.below i (omega (arith, l, long)) in omega (arith, x, b, long));
      alone = λ i l alone. either_way i m (slice_index qs i ≡ i)
          (λ h. let x = same_set ps m i q h (omega (arith, h, inside)) in
          let no : true ≡ false = sym marked ∙ ap (λ n. get_or marks n true) (sym x) ∙ alone in absurd cc)
          (λ h. let x : slice_index qs i ≡ slice_index ps i = get_or-set_other ps m i q 0 h in
          let old : get_or marks (slice_index ps i) true ≡ false = ap (λ n. get_or marks n true) (sym x) ∙ alone in
          let other : slice_index ps i ≢ q = (λ y. let no : true ≡ false = sym marked ∙ ap (λ n. get_or marks n true) (sym y) ∙ old in absurd cc) in
          x ∙ p.alone i (omega (arith, l, long)) (sym (get_or-set_other shared q (slice_index ps i) true true other)
          ∙ ap (λ (bs : List Bool). get_or bs (slice_index ps i) true) (sym e) ∙ old));
    }

-- a net that is read at itself alone
pub net_free : (ps : List ℕ) (shared : List Bool) (t : ℕ) → ArePlaces ps shared → t < length ps → slice_index ps t ≡ t
    → get_or shared t true ≡ false → IsFree ps t
net_free ps shared t p l here alone = λ i. ⊎_elim
    (λ (a : i < length ps). (
      λ e. let x : slice_index ps i ≡ t = sym (at_net ps i a) ∙ e in
          sym (p.alone i a (ap (λ n. get_or shared n true) x ∙ alone)) ∙ x,
      λ e. at_net ps i a ∙ ap (slice_index ps) e ∙ here,
    ))
    (λ (b : length ps ≤ i). (λ e. sym (at_rest ps i b) ∙ e, λ e. absurd (omega (arith, b, e, l))))
    (cases_lt i (length ps))

-- ---- each net read where it stands
pub identity_seen : (ps s : List ℕ) → ((i : ℕ) → i < length ps → slice_index ps i ≡ i) → length ps ≤ length s → through ps s ≡ s
identity_seen ps s h l =
    same_number_lists (through ps s) s (seen_long ps s l) (λ i k.
    seen_at ps s i l
    ∙ ⊎_elim (λ (a : i < length ps). ap (slice_index s) (at_net ps i a ∙ h i a)) (λ (b : length ps ≤ i). ap (slice_index s) (at_rest ps i b))
    (cases_lt i (length ps)))

pub identity_places : (ps : List ℕ) (shared : List Bool) → ((i : ℕ) → i < length ps → slice_index ps i ≡ i) → ArePlaces ps shared
identity_places ps shared h = record { below = λ i l. let e = h i l in omega (arith, l, e); alone = λ i l no. h i l }

pub as_it_stands : (n : ℕ) (settling clocking : List Instr) (ps : List ℕ) → length ps ≡ n → ((i : ℕ) → i < n → slice_index ps i ≡ i)
    → All (λ (i : Instr). IsInstr i) settling → All (λ (i : Instr). IsInstr i) clocking → IsInPlace n settling clocking ps settling clocking
as_it_stands n settling clocking ps long h a b =
    let id : (s : List ℕ) → n ≤ length s → through ps s ≡ s
    = λ s l. identity_seen ps s (λ i k. h i (omega (arith, k, long))) (omega (arith, l, long)) in
    record {
      long = long;
      below = λ i l. let e = h i l in omega (arith, l, e);
      settled = λ s l. id (exec settling 0 s) (let e = exec_long settling 0 s in omega (arith, e, l));
      clocked = λ s l. id (exec clocking 0 s) (let e = exec_long clocking 0 s in omega (arith, e, l)) ∙ ap (exec clocking 0) (sym (id s l));
      settles_safe = a;
      clocks_safe = b;
    }

-- one more place, of a net that is read where it stands
pub identity_more : (ps new : List ℕ) (n : ℕ) → length ps ≡ n → ((i : ℕ) → i < n → slice_index ps i ≡ i) → new ≡ ps ++ n ∷ []
    → (i : ℕ) → i < n + 1 → slice_index new i ≡ i
identity_more ps new n long h e i l = ap (λ (xs : List ℕ). slice_index xs i) e ∙ ⊎_elim
    (λ (a : i < n). get_or-append ps (n ∷ []) 0 i (omega (arith, a, long)) ∙ h i a)
    (λ (b : n ≤ i). let last : i ≡ length ps = omega (arith, b, l, long) in
    ap (slice_index (ps ++ n ∷ [])) last ∙ get_or-append_seam ps n [] 0 ∙ sym long ∙ sym last)
    (cases_lt i n)

-- instructions that the machine can take
step_safe : (ps : List ℕ) (step : Step) → IsStep step → IsStep (moved ps step)
step_safe ps (Number n) h = tt
step_safe ps (Copy a) h = tt
step_safe ps (Slice a low w) h = h
step_safe ps (And a b) h = tt
step_safe ps (Or a b) h = tt
step_safe ps (Xor a b) h = tt
step_safe ps (Add a b w) h = h
step_safe ps (Subtract a b w) h = h
step_safe ps (Less a b) h = tt
step_safe ps (Equal a b) h = tt
step_safe ps (LogicalNot a) h = tt
step_safe ps (Unary op a w) h = h
step_safe ps (Binary op a b w) h = h
step_safe ps (Choose c a b) h = tt
step_safe ps (Join high low x y) h = h
step_safe ps (Repeat n a w) h = h
step_safe ps (Select a i w) h = h
step_safe ps (Word first size i) h = tt

pub moved_safe : (ps : List ℕ) (i : Instr) → IsInstr i → IsInstr (moved_instr ps i)
moved_safe ps (Do to step) h = step_safe ps step h
moved_safe ps (Put to low w a rest) h = h
moved_safe ps (PutFrom to low size i w a rest) h = h
moved_safe ps (PutWord first size i low w a rest) h = h
moved_safe ps (PutWordFrom first n i size j w a rest) h = h
moved_safe ps (SkipIfZero c n) h = tt
moved_safe ps (Skip n) h = tt

-- what is known of what is there
pub at_some : {X : Type 0} (P : X → Type 0) (o : Option X) (x : X) → o ≡ Some x → MatchOption o (Unit {0}) P → P x
at_some P o x e h = subst (λ p. MatchOption p (Unit {0}) P) e h
