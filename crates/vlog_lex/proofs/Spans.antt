-- The longest front of a run of bytes, by the length of the longest front that passes a test.
use Rattle.std.proofs.Common.{◌≡◌, ℕ, suc, ◌+◌, ◌<◌, ◌≤◌, Bool, true, false, cond, List, [], ◌∷◌, ◌++◌, length, take, drop, sym, refl, ap}
use Rattle.std.proofs.Common.{◌∙◌, subst, ⊎_elim, arith, take-append-drop, length-take-le, take_at, get_or, ◌-◌}
use Rattle.std.specs.List.{prefix_len}
use Rattle.std.proofs.lemmas.Bool.{both_ways, cases_Bool, cases_lt, false_from_ne_true}
use Rattle.std.proofs.lemmas.List.{take_rest}
use Rattle.std.proofs.lemmas.List.Sums.{prefix_len-le-length}
use Rattle.vlog_lex.specs.Span.{Each, IsRun, Stops, IsSpan}
use Rattle.vlog_lex.specs.Front.{IsLongestFront}

-- one more byte passes
passes : (p : ℕ → Bool) (b : ℕ) (bs : List ℕ) → p b ≡ true → prefix_len p (b ∷ bs) ≡ suc (prefix_len p bs)
passes p b bs h = let one : 1 + prefix_len p bs ≡ suc (prefix_len p bs) = omega arith in ap (λ t. cond t (1 + prefix_len p bs) 0) h ∙ one

fails : (p : ℕ → Bool) (b : ℕ) (bs : List ℕ) → p b ≡ false → prefix_len p (b ∷ bs) ≡ 0
fails p b bs h = ap (λ t. cond t (1 + prefix_len p bs) 0) h

pub span_len : (p : ℕ → Bool) (text rest : List ℕ) → Each p text → Stops p rest → prefix_len p (text ++ rest) ≡ length text
span_len p [] [] each stops = refl
span_len p [] (b ∷ rest) each stops = fails p b rest (false_from_ne_true (p b) stops)
span_len p (b ∷ text) rest each stops = passes p b (text ++ rest) each.0 ∙ ap suc (span_len p text rest each.1 stops)

pub each_front : (p : ℕ → Bool) (bytes : List ℕ) → Each p (take (prefix_len p bytes) bytes)
each_front p [] = tt
each_front p (b ∷ bs) =
    let P : ℕ → Type 0 = λ n. Each p (take n (b ∷ bs)) in
    ⊎_elim
    (λ h. subst P (sym (passes p b bs h)) (h, each_front p bs))
    (λ h. subst P (sym (fails p b bs h)) tt)
    (cases_Bool (p b))

pub stops_after : (p : ℕ → Bool) (bytes : List ℕ) → Stops p (drop (prefix_len p bytes) bytes)
stops_after p [] = tt
stops_after p (b ∷ bs) =
    let P : ℕ → Type 0 = λ n. Stops p (drop n (b ∷ bs)) in
    ⊎_elim
    (λ h. subst P (sym (passes p b bs h)) (stops_after p bs))
    (λ h. subst P (sym (fails p b bs h)) (both_ways (p b) h))
    (cases_Bool (p b))

pub span_front : (p : ℕ → Bool) (bytes : List ℕ) → IsSpan p (take (prefix_len p bytes) bytes) (drop (prefix_len p bytes) bytes)
span_front p bytes = record { each = each_front p bytes; stops = stops_after p bytes }

-- a front whose bytes pass isn't longer
within : (p : ℕ → Bool) (front tail : List ℕ) → Each p front → length front ≤ prefix_len p (front ++ tail)
within p [] tail each = omega arith
within p (b ∷ front) tail each =
    let more = within p front tail each.1 in
    let one = passes p b (front ++ tail) each.0 in
    omega arith

run_within : (p q : ℕ → Bool) (b : ℕ) (bs front tail : List ℕ) → front ++ tail ≡ b ∷ bs → IsRun p q front
    → length front ≤ suc (prefix_len q bs)
run_within p q b bs [] tail e run = absurd run
run_within p q b bs (c ∷ front) tail e run =
    let same : front ++ tail ≡ bs = cc in
    let more = within q front tail run.1 in
    let one = ap (prefix_len q) same in
    omega arith

-- the first byte passes the first test
pub longest_run : (p q : ℕ → Bool) (b : ℕ) (bs : List ℕ) (n : ℕ) → p b ≡ true → n ≡ suc (prefix_len q bs)
    → IsLongestFront (IsRun p q) n (b ∷ bs)
longest_run p q b bs n h e =
    let P : ℕ → Type 0 = λ m. IsRun p q (take m (b ∷ bs)) in
    record {
      fits = omega (arith, prefix_len-le-length q bs);
      found = λ _. subst P (sym e) (h, each_front q bs);
      longest = λ front tail same run. omega (arith, run_within p q b bs front tail same run);
    }

-- no run begins there
pub no_run : (p q : ℕ → Bool) (bytes : List ℕ) → Stops p bytes → IsLongestFront (IsRun p q) 0 bytes
no_run p q bytes stops =
    let stuck : (front tail : List ℕ) → front ++ tail ≡ bytes → IsRun p q front → length front ≤ 0 = none_of p q bytes stops in
    record { fits = omega arith; found = λ some. absurd (omega arith); longest = stuck }
  where
    none_of : (p q : ℕ → Bool) (bytes : List ℕ) → Stops p bytes → (front tail : List ℕ) → front ++ tail ≡ bytes → IsRun p q front
        → length front ≤ 0
    none_of p q bytes stops [] tail e run = absurd run
    none_of p q bytes stops (c ∷ front) tail e run = absurd (subst (Stops p) (sym e) stops run.0)

-- one length alone is that of the longest front
pub one_longest : (set : List ℕ → Type 0) (m n : ℕ) (bytes : List ℕ) → IsLongestFront set m bytes → IsLongestFront set n bytes → m ≡ n
one_longest set m n bytes a b =
    let low : m ≤ n = below set m n bytes a b in
    let high : n ≤ m = below set n m bytes b a in
    omega arith
  where
    below : (set : List ℕ → Type 0) (m n : ℕ) (bytes : List ℕ) → IsLongestFront set m bytes → IsLongestFront set n bytes → m ≤ n
    below set m n bytes a b =
        ⊎_elim
        (λ some. omega (
          arith,
          b.longest (take m bytes) (drop m bytes) (take-append-drop m bytes) (a.found some),
          length-take-le m bytes
              a.fits,
        ))
        (λ none. omega arith)
        (cases_lt 0 m)

-- a run has a byte
pub run_some : (p q : ℕ → Bool) (text : List ℕ) → IsRun p q text → 0 < length text
run_some p q [] run = absurd run
run_some p q (b ∷ text) run = omega arith

-- each byte of a run passes the second test, where what passes the first does
pub run_each : (p q : ℕ → Bool) (text : List ℕ) → ((b : ℕ) → p b ≡ true → q b ≡ true) → IsRun p q text → Each q text
run_each p q [] h run = tt
run_each p q (b ∷ text) h run = (h b run.0, run.1)

-- a front whose bytes pass doesn't go past a byte that fails
pub before_stop : (p : ℕ → Bool) (c : ℕ) → ¬ (p c ≡ true) → (front tail size more : List ℕ) → front ++ tail ≡ size ++ c ∷ more
    → Each p front → length front ≤ length size
before_stop p c stop [] tail size more e each = omega arith
before_stop p c stop (b ∷ front) tail [] more e each =
    let same : b ≡ c = cc in
    let P : ℕ → Type 0 = λ x. p x ≡ true in
    absurd (stop (subst P same each.0))
before_stop p c stop (b ∷ front) tail (d ∷ size) more e each =
    let same : front ++ tail ≡ size ++ c ∷ more = cc in
    omega (arith, before_stop p c stop front tail size more same each.1)

-- two fronts of one list that have one length are one
pub same_front : (a r b s : List ℕ) → a ++ r ≡ b ++ s → length a ≡ length b → a ≡ b
same_front a r b s e l = sym (take_at a r (length b) l) ∙ ap (take (length b)) e ∙ take_at b s (length b) refl

-- a list has one span at its front
pub one_span : (p : ℕ → Bool) (a r b s : List ℕ) → IsSpan p a r → IsSpan p b s → a ++ r ≡ b ++ s → a ≡ b
one_span p a r b s x y e =
    same_front a r b s e (sym (span_len p a r x.each x.stops) ∙ ap (prefix_len p) e ∙ span_len p b s y.each y.stops)

-- the longer of two fronts goes on where the shorter one ends
pub front_goes_on : (a r b s : List ℕ) → a ++ r ≡ b ++ s → length a ≤ length b → (more : List ℕ) × (b ≡ a ++ more)
front_goes_on [] r b s e l = (b, refl)
front_goes_on (c ∷ a) r [] s e l = absurd (omega arith)
front_goes_on (c ∷ a) r (d ∷ b) s e l =
    let heads : c ≡ d = cc in
    let tails : a ++ r ≡ b ++ s = cc in
    let short : length a ≤ length b = omega arith in
    let found = front_goes_on a r b s tails short in
    let same = found.1 in
    (found.0, cc)

-- a list with a byte, in the form that a slice pattern reads
one_and_rest : (xs : List ℕ) → 1 ≤ length xs → xs ≡ get_or xs 0 0 ∷ drop 1 xs
one_and_rest [] h = absurd (omega arith)
one_and_rest (x ∷ xs) h = refl

pub one_read : (xs : List ℕ) → 1 ≤ length xs → xs ≡ get_or xs 0 0 ∷ take (length xs - 1) (drop 1 xs)
one_read xs h = one_and_rest xs h ∙ ap (λ t. get_or xs 0 0 ∷ t) (sym (take_rest xs 1))

-- the run of a list whose first byte passes
pub read_run : (p q : ℕ → Bool) (xs : List ℕ) (n : ℕ) → 1 ≤ length xs → p (get_or xs 0 0) ≡ true → n
    ≡ prefix_len q (take (length xs - 1) (drop 1 xs)) → IsLongestFront (IsRun p q) (1 + n) xs
read_run p q xs n some first rest =
    let P : List ℕ → Type 0 = IsLongestFront (IsRun p q) (1 + n) in
    subst P (sym (one_read xs some)) (longest_run p q (get_or xs 0 0) (take (length xs - 1) (drop 1 xs)) (1 + n) first (omega arith))

pub at_zero : (set : List ℕ → Type 0) (n : ℕ) (bytes : List ℕ) → n ≤ 0 → IsLongestFront set n bytes → IsLongestFront set 0 bytes
at_zero set n bytes none front =
    let zero_is : n ≡ 0 = omega arith in
    let P : ℕ → Type 0 = λ m. IsLongestFront set m bytes in
    subst P zero_is front
