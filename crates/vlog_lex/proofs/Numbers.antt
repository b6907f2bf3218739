-- The longest based literal, by the longest size and the longest digits after it.
use Rattle.std.proofs.Common.{◌≡◌, ℕ, zero, suc, ◌+◌, ◌-◌, ◌<◌, ◌≤◌, true, List, [], ◌∷◌, ◌++◌, ◌⊎◌, inl, inr, length, take, drop, sym}
use Rattle.std.proofs.Common.{refl, ap, ◌∙◌, subst, arith, append_assoc, take-append-drop, length-take-le, length-append, length-drop}
use Rattle.std.proofs.Common.{take_at, drop_at}
use Rattle.std.proofs.lemmas.Bool.{false≢true, or_left}
use Rattle.vlog_lex.specs.Span.{Each}
use Rattle.vlog_lex.specs.Front.{IsLongestFront}
use Rattle.vlog_lex.specs.Lexeme.{is_digit_of, continues_digits, IsDigits, IsDecimal, IsBased}
use Rattle.vlog_lex.proofs.Spans.{span_len, longest_run, no_run, one_longest, run_some, run_each, before_stop, at_zero}

-- `'` is neither a digit nor `_`
quote_stops : ¬ (continues_digits 100 39 ≡ true)
quote_stops h = false≢true h

digit_continues : (base b : ℕ) → is_digit_of base b ≡ true → continues_digits base b ≡ true
digit_continues base b h = or_left (is_digit_of base b) _ h

pub decimal_each : (text : List ℕ) → IsDecimal text → Each (continues_digits 100) text
decimal_each text run = run_each (is_digit_of 100) (continues_digits 100) text (digit_continues 100) run

-- a decimal front ends where the size before a `'` ends
pub decimal_before_quote : (front tail size more : List ℕ) → front ++ tail ≡ size ++ 39 ∷ more → IsDecimal front
    → length front ≤ length size
decimal_before_quote front tail size more e run =
    before_stop (continues_digits 100) 39 quote_stops front tail size more e (decimal_each front run)

-- the size before a `'` is the longest decimal front, if it is one
size_is : (s : ℕ) (size more : List ℕ) → IsLongestFront IsDecimal s (size ++ 39 ∷ more) → (size ≡ []) ⊎ IsDecimal size → s ≡ length size
size_is s [] more front sized =
    one_longest IsDecimal s 0 (39 ∷ more) front (no_run (is_digit_of 100) (continues_digits 100) (39 ∷ more) (λ h. false≢true h))
size_is s (d ∷ ds) more front (inl none) = absurd (cc)
size_is s (d ∷ ds) more front (inr run) =
    one_longest IsDecimal s (suc (length ds)) (d ∷ (ds ++ 39 ∷ more)) front
    (longest_run (is_digit_of 100) (continues_digits 100) d (ds ++ 39 ∷ more) (suc (length ds)) run.0
    (ap suc (sym (span_len (continues_digits 100) ds (39 ∷ more) run.1 quote_stops))))

-- where a based literal stands, its `'` comes right after the longest decimal front
record Cuts (s : ℕ) (bytes front tail : List ℕ) (based : IsBased front) : Type 0 where
  after : drop s bytes ≡ 39 ∷ based.base ∷ (based.digits ++ tail)
  len : length front ≡ s + 2 + length based.digits

cuts : (s : ℕ) (bytes front tail : List ℕ) → IsLongestFront IsDecimal s bytes → front ++ tail ≡ bytes → (based : IsBased front)
    → Cuts s bytes front tail based
cuts s bytes front tail decimal e based =
    let more = based.base ∷ (based.digits ++ tail) in
    let split : bytes ≡ based.size ++ 39 ∷ more = sym e ∙ ap (λ t. t ++ tail) based.spelled
    ∙ append_assoc based.size (39 ∷ based.base ∷ based.digits) tail in
    let P : List ℕ → Type 0 = IsLongestFront IsDecimal s in
    let size : s ≡ length based.size = size_is s based.size more (subst P split decimal) based.sized in
    let all : length front ≡ length based.size + suc (suc (length based.digits)) = ap length based.spelled
    ∙ length-append based.size (39 ∷ based.base ∷ based.digits) in
    record { after = ap (drop s) split ∙ drop_at based.size (39 ∷ more) s (sym size); len = omega arith }

pub based_yes : (s base n : ℕ) (bytes rest : List ℕ) → IsLongestFront IsDecimal s bytes → drop s bytes ≡ 39 ∷ base ∷ rest
    → IsLongestFront (IsDigits base) n rest → 0 < n → IsLongestFront IsBased (s + 2 + n) bytes
based_yes s base n bytes rest decimal e digits some =
    let size = length-take-le s bytes decimal.fits in
    let left : suc (suc (length rest)) ≡ length bytes - s = sym (ap length e) ∙ length-drop s bytes in
    let text = take s bytes ++ 39 ∷ base ∷ take n rest in
    let len : length text ≡ s + 2 + n = omega (
      arith,
      length-append (take s bytes) (39 ∷ base ∷ take n rest),
      length-take-le n rest
          digits.fits,
    ) in
    let split : bytes ≡ text ++ drop n rest =
    sym (take-append-drop s bytes) ∙ ap (λ t. take s bytes ++ t) (e ∙ ap (λ t. 39 ∷ base ∷ t) (sym (take-append-drop n rest)))
    ∙ sym (append_assoc (take s bytes) (39 ∷ base ∷ take n rest) (drop n rest)) in
    let sized : (take s bytes ≡ []) ⊎ IsDecimal (take s bytes) = sized_front s bytes decimal in
    record {
      fits = omega (arith, digits.fits, decimal.fits);
      found = λ _. record {
        size = take s bytes;
        base = base;
        digits = take n rest;
        spelled = ap (take (s + 2 + n)) split ∙ take_at text (drop n rest) (s + 2 + n) len;
        sized = sized;
        valued = digits.found some;
      };
      longest = λ front tail same based. longest s base n bytes rest decimal e digits front tail same based;
    }
  where
    sized_front : (s : ℕ) (bytes : List ℕ) → IsLongestFront IsDecimal s bytes → (take s bytes ≡ []) ⊎ IsDecimal (take s bytes)
    sized_front zero bytes decimal = inl refl
    sized_front (suc s) bytes decimal = inr (decimal.found (omega arith))

    longest : (s base n : ℕ) (bytes rest : List ℕ) → IsLongestFront IsDecimal s bytes → drop s bytes ≡ 39 ∷ base ∷ rest
        → IsLongestFront (IsDigits base) n rest → (front tail : List ℕ) → front ++ tail ≡ bytes → IsBased front → length front ≤ s + 2 + n
    longest s base n bytes rest decimal e digits front tail same based =
        let cut = cuts s bytes front tail decimal same based in
        let both = sym cut.after ∙ e in
        let bases : based.base ≡ base = cc in
        let rests : based.digits ++ tail ≡ rest = cc in
        let P : ℕ → Type 0 = λ b. IsDigits b based.digits in
        omega (arith, digits.longest based.digits tail rests (subst P bases based.valued), cut.len)

pub based_no : (s : ℕ) (bytes : List ℕ) → IsLongestFront IsDecimal s bytes
    → ((base : ℕ) (rest : List ℕ) → drop s bytes ≡ 39 ∷ base ∷ rest → IsLongestFront (IsDigits base) 0 rest)
    → IsLongestFront IsBased 0 bytes
based_no s bytes decimal none = record {
  fits = omega arith;
  found = λ some. absurd (omega arith);
  longest = λ front tail same based.
      let cut = cuts s bytes front tail decimal same based in
      let few = (none based.base (based.digits ++ tail) cut.after).longest based.digits tail refl based.valued in
      absurd (omega (arith, few, run_some (is_digit_of based.base) (continues_digits based.base) based.digits based.valued));
}

-- `'` and a letter stand there, and no digit of the base
pub based_bare : (s base n : ℕ) (bytes rest : List ℕ) → IsLongestFront IsDecimal s bytes → drop s bytes ≡ 39 ∷ base ∷ rest
    → IsLongestFront (IsDigits base) n rest → n ≤ 0 → IsLongestFront IsBased 0 bytes
based_bare s base n bytes rest decimal e digits none =
    let zero_digits = at_zero (IsDigits base) n rest none digits in
    based_no s bytes decimal (λ b r same. moved base b rest r (sym e ∙ same) zero_digits)
  where
    moved : (base b : ℕ) (rest r : List ℕ) → 39 ∷ base ∷ rest ≡ 39 ∷ b ∷ r → IsLongestFront (IsDigits base) 0 rest
        → IsLongestFront (IsDigits b) 0 r
    moved base b rest r same digits =
        let bases : base ≡ b = cc in
        let rests : rest ≡ r = cc in
        let P : ℕ → Type 0 = λ x. IsLongestFront (IsDigits x) 0 rest in
        let Q : List ℕ → Type 0 = λ x. IsLongestFront (IsDigits b) 0 x in
        subst Q rests (subst P bases digits)
