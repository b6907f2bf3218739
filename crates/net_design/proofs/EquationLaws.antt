-- An assignment changes nothing exactly where the bits of its target are those of its value.
use Rattle.std.proofs.Common.{◌≡◌, ℕ, ◌==◌, Bool, true, false, if◌then◌else◌, refl, ◌+◌, ◌-◌, ◌*◌, ◌/◌, ◌%◌, ◌^◌, ◌<◌, ◌≤◌, ◌↔◌, [], ◌∷◌}
use Rattle.std.proofs.Common.{append-nil, length, slice_index, slice_set, ⊎_elim, ap, sym, subst, ◌∙◌, arith}
use Rattle.std.specs.Int.{bit_at}
use Rattle.std.proofs.lemmas.Bool.{cases_lt, eqb-true}
use Rattle.std.proofs.lemmas.List.{get_or-set_same, set-get_or}
use Rattle.std.proofs.lemmas.Nat.{pow_pos, mod_below}
use Rattle.std.proofs.lemmas.Nat.Bits.{same_from_bits_below}
use Rattle.vidi_bits.proofs.BitLemmas.{bit_at-part, bit_at-put_below, bit_at-put_inside, bit_at-put_above, bit_at-mod}
use Rattle.net_design.specs.declared.rhs.Span.{Span}
use Rattle.net_design.specs.declared.rhs.Rhs.{Rhs}
use Rattle.net_design.specs.declared.act.Place.TheVariants.{Bits}
use Rattle.net_design.specs.declared.act.Act.TheVariants.{Set}
use Rattle.net_design.specs.declared.values.Target.TheVariants.{Net}
use Rattle.net_design.specs.declared.values.Values.{Values}
use Rattle.vidi_bits.specs.Number.{part_of, put_of}
use Rattle.net_design.specs.Value.{read, value}
use Rattle.net_design.specs.Updates.{apply, update, bit_updates, target_updates, run}

-- what is put stands there
pub part-put : (n low w x : ℕ) → low + w ≤ 128 → part_of (put_of n low w x) low w ≡ x % 2 ^ w
part-put n low w x l =
    same_from_bits_below w _ _ (mod_below (put_of n low w x / 2 ^ low) (2 ^ w) (pow_pos w)) (mod_below x (2 ^ w) (pow_pos w))
    (λ i h.
    let back : low + i - low ≡ i = omega arith in
    bit_at-part (put_of n low w x) low w i h
    ∙ bit_at-put_inside n low w x (low + i) (omega arith) (omega arith) (omega arith)
    ∙ ap (λ j. bit_at x j) back
    ∙ sym (bit_at-mod x w i h))

-- to put what stands there changes nothing
pub put-part : (n low w x : ℕ) → low + w ≤ 128 → n < 2 ^ 128 → part_of n low w ≡ x % 2 ^ w → put_of n low w x ≡ n
put-part n low w x l fits same =
    same_from_bits_below 128 _ _ (mod_below ((n / 2 ^ (low + w) * 2 ^ w + x % 2 ^ w) * 2 ^ low + n % 2 ^ low) (2 ^ 128) (pow_pos 128)) fits
    (λ i h. ⊎_elim
    (λ (below : i < low). bit_at-put_below n low w x i h below)
    (λ (from : low ≤ i). ⊎_elim
    (λ (inside : i < low + w).
    let j : i - low < w = omega arith in
    let back : low + (i - low) ≡ i = omega arith in
    bit_at-put_inside n low w x i h from inside
    ∙ sym (bit_at-mod x w (i - low) j)
    ∙ ap (λ p. bit_at p (i - low)) (sym same)
    ∙ bit_at-part n low w (i - low) j
    ∙ ap (λ k. bit_at n k) back)
    (λ (above : low + w ≤ i). bit_at-put_above n low w x i h above)
    (cases_lt i (low + w)))
    (cases_lt i low))

-- one write leaves the numbers as they are exactly where the bits stand there already
pub written_same : (v : Values) (m low w x : ℕ) → m < length v.nets → slice_index v.nets m < 2 ^ 128 → low + w ≤ 128
    → let after : Values = record { nets = slice_set v.nets m (put_of (slice_index v.nets m) low w x); words = v.words } in
    (after ≡ v) ↔ (part_of (slice_index v.nets m) low w ≡ x % 2 ^ w)
written_same v m low w x there fits l = (
  (λ h.
      let e : slice_index (slice_set v.nets m (put_of (slice_index v.nets m) low w x)) m ≡ slice_index v.nets m = ap
      (λ (u : Values). slice_index u.nets m) h in
      let p = get_or-set_same v.nets m (put_of (slice_index v.nets m) low w x) 0 there in
      ap (λ n. part_of n low w) (sym e ∙ p) ∙ part-put (slice_index v.nets m) low w x l),
  (λ h.
      let e = put-part (slice_index v.nets m) low w x l fits h in
      ap (λ n. record { nets = slice_set v.nets m n; words = v.words }) e
      ∙ ap (λ xs. record { nets = xs; words = v.words }) (set-get_or v.nets m 0)),
)

pub rest_one : (n : ℕ) → n % 2 ^ 0 ≡ 0
rest_one n = omega arith

bits_by : (none : Bool) (v : Values) (m low w x : ℕ) → (none ≡ true → w ≡ 0) → m < length v.nets → slice_index v.nets m < 2 ^ 128
    → low + w ≤ 128
    → (apply (if none then [] else update (Net m) low w x ∷ []) v ≡ v) ↔ (part_of (slice_index v.nets m) low w ≡ x % 2 ^ w)
bits_by true v m low w x z there fits l = (
  (λ h. subst (λ k. slice_index v.nets m / 2 ^ low % 2 ^ k ≡ x % 2 ^ k) (sym (z refl)) (rest_one (slice_index v.nets m / 2 ^ low)
      ∙ sym (rest_one x))),
  (λ h. refl),
)
bits_by false v m low w x z there fits l = written_same v m low w x there fits l

-- the same of an assignment to bits, of which there may be none
pub bits_same : (v : Values) (m low w x : ℕ) → m < length v.nets → slice_index v.nets m < 2 ^ 128 → low + w ≤ 128
    → (apply (bit_updates (Net m) low w x) v ≡ v) ↔ (part_of (slice_index v.nets m) low w ≡ x % 2 ^ w)
bits_same v m low w x there fits l = bits_by (w == 0) v m low w x (λ t. eqb-true _ _ t) there fits l

whole : (x : ℕ) → x / 2 ^ 0 ≡ x
whole x = omega arith

pub set_equation : (s : Span) (n : ℕ) (e : Rhs) (v : Values) → s.net < length v.nets → slice_index v.nets s.net < 2 ^ 128
    → s.low + s.width ≤ 128
    → (run (Set (Bits s n ∷ []) e ∷ []) v ≡ v) ↔ (read s v ≡ value e v % 2 ^ s.width)
set_equation s n e v there fits l =
    let x : ℕ = value e v in
    let same : run (Set (Bits s n ∷ []) e ∷ []) v ≡ apply (bit_updates (Net s.net) s.low s.width x) v =
    ap (λ us. apply us v) (append-nil (target_updates (Bits s n ∷ []) x v) ∙ append-nil (bit_updates (Net s.net) s.low s.width (x / 2 ^ 0)))
    ∙ ap (λ y. apply (bit_updates (Net s.net) s.low s.width y) v) (whole x) in
    subst (λ u. (u ≡ v) ↔ (read s v ≡ x % 2 ^ s.width)) (sym same) (bits_same v s.net s.low s.width x there fits l)
