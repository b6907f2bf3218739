-- A concatenated target: running its assignment changes nothing exactly where each part has its bits of the value.
use Rattle.std.proofs.Common.{◌≡◌, ℕ, ◌==◌, Bool, true, false, if◌then◌else◌, subst, ◌+◌, ◌-◌, ◌/◌, ◌%◌, ◌^◌, ◌<◌, ◌≤◌, ◌↔◌, List, [], ◌∷◌}
use Rattle.std.proofs.Common.{◌++◌, length, slice_index, append-nil, refl, ap, sym, ◌∙◌, arith}
use Rattle.std.specs.Int.{bit_at}
use Rattle.std.proofs.lemmas.Bool.{le-leb, lt-ltb, eq-eqb, eqb-true, and_from}
use Rattle.std.proofs.lemmas.List.{get_or-set_same}
use Rattle.std.proofs.lemmas.Nat.{pow_pos, mod_below}
use Rattle.std.proofs.lemmas.Nat.Bits.{same_from_bits_below}
use Rattle.vidi_bits.proofs.BitLemmas.{bit_at-part, bit_at-put_inside, bit_at-mod}
use Rattle.net_design.specs.declared.rhs.Span.{Span}
use Rattle.net_design.specs.declared.rhs.Rhs.{Rhs}
use Rattle.net_design.specs.declared.act.Place.{Place}
use Rattle.net_design.specs.declared.act.Place.TheVariants.{Bits, BitsFrom, Word, WordFrom}
use Rattle.net_design.specs.declared.act.Act.TheVariants.{Set}
use Rattle.net_design.specs.declared.values.Target.TheVariants.{Net}
use Rattle.net_design.specs.declared.values.Update.{Update}
use Rattle.net_design.specs.declared.values.Values.{Values}
use Rattle.vidi_bits.specs.Number.{part_of, put_of}
use Rattle.net_design.specs.Value.{read, value}
use Rattle.net_design.specs.Updates.{apply, update, bit_updates, target_width, target_updates, run, ArePlaced, HasParts}
use Rattle.net_design.specs.Bits.{bits_of, Apart}
use Rattle.net_design.proofs.EquationLaws.{rest_one, bits_same}
use Rattle.net_design.proofs.UpdateLaws.{apply_both}
use Rattle.net_design.proofs.FrameLaws.{applied_stays, target_touch}

in_span : (s : Span) (i : ℕ) → i < s.width → bits_of s s.net (s.low + i) ≡ true
in_span s i l =
    and_from _ _ (eq-eqb s.net s.net refl) (and_from _ _ (le-leb s.low (s.low + i) (omega arith))
    (lt-ltb (s.low + i) (s.low + s.width) (omega arith)))

-- v after w bits were written, or none
abbrev after_bits : Bool → ℕ → ℕ → ℕ → ℕ → Values → Values
after_bits none m low w x v = apply (if none then [] else update (Net m) low w x ∷ []) v

-- the first part has its bits, where the others leave them alone and the whole changes nothing
first_part : (none : Bool) (m low w : ℕ) (us : List Update) (x : ℕ) (v : Values) → (none ≡ true → w ≡ 0) → m < length v.nets → low + w ≤ 128
    → ((i : ℕ) → i < w → bit_at (slice_index (apply us (after_bits none m low w x v)).nets m) (low + i)
    ≡ bit_at (slice_index (after_bits none m low w x v).nets m) (low + i))
    → apply us (after_bits none m low w x v) ≡ v
    → part_of (slice_index v.nets m) low w ≡ x % 2 ^ w
first_part true m low w us x v z there wide stay same =
    subst (λ k. slice_index v.nets m / 2 ^ low % 2 ^ k ≡ x % 2 ^ k) (sym (z refl)) (rest_one (slice_index v.nets m / 2 ^ low)
    ∙ sym (rest_one x))
first_part false m low w us x v z there wide stay same =
    same_from_bits_below w _ _ (mod_below (slice_index v.nets m / 2 ^ low) (2 ^ w) (pow_pos w)) (mod_below x (2 ^ w) (pow_pos w))
    (λ i l.
    let back : low + i - low ≡ i = omega arith in
    bit_at-part (slice_index v.nets m) low w i l
    ∙ ap (λ (u : Values). bit_at (slice_index u.nets m) (low + i)) (sym same)
    ∙ stay i l
    ∙ ap (λ n. bit_at n (low + i)) (get_or-set_same v.nets m (put_of (slice_index v.nets m) low w x) 0 there)
    ∙ bit_at-put_inside (slice_index v.nets m) low w x (low + i) (omega arith) (omega arith) (omega arith)
    ∙ ap (λ j. bit_at x j) back
    ∙ sym (bit_at-mod x w i l))

parts_from : (ps : List Place) (x : ℕ) (v : Values) → ArePlaced ps v → Apart ps → apply (target_updates ps x v) v ≡ v → HasParts ps x v
parts_from [] x v placed apart h = tt
parts_from (Bits s n ∷ ps) x v placed apart h =
    let y : ℕ = x / 2 ^ target_width ps in
    let us : List Update = target_updates ps x v in
    let w : Values = after_bits (s.width == 0) s.net s.low s.width y v in
    let same : apply us w ≡ v = sym (apply_both (bit_updates (Net s.net) s.low s.width y) us v) ∙ h in
    let first : read s v ≡ y % 2 ^ s.width =
    first_part (s.width == 0) s.net s.low s.width us y v (λ t. eqb-true _ _ t) placed.0 placed.2
    (λ i l. applied_stays us w s.net (s.low + i) (omega (arith, placed.2))
    (target_touch ps x v s.net (s.low + i) (apart.0 s.net (s.low + i) (in_span s i l))))
    same in
    let e : w ≡ v = (bits_same v s.net s.low s.width y placed.0 placed.1 placed.2).1 first in
    (first, parts_from ps x v placed.3 apart.1 (ap (λ u. apply us u) (sym e) ∙ same))
parts_from (BitsFrom s i w ∷ ps) x v placed apart h = absurd placed
parts_from (Word r i low w n ∷ ps) x v placed apart h = absurd placed
parts_from (WordFrom r i size j w ∷ ps) x v placed apart h = absurd placed

parts_fixed : (ps : List Place) (x : ℕ) (v : Values) → ArePlaced ps v → HasParts ps x v → apply (target_updates ps x v) v ≡ v
parts_fixed [] x v placed h = refl
parts_fixed (Bits s n ∷ ps) x v placed h =
    let y : ℕ = x / 2 ^ target_width ps in
    let e = (bits_same v s.net s.low s.width y placed.0 placed.1 placed.2).1 h.0 in
    apply_both (bit_updates (Net s.net) s.low s.width y) (target_updates ps x v) v
    ∙ ap (λ u. apply (target_updates ps x v) u) e
    ∙ parts_fixed ps x v placed.3 h.1
parts_fixed (BitsFrom s i w ∷ ps) x v placed h = absurd placed
parts_fixed (Word r i low w n ∷ ps) x v placed h = absurd placed
parts_fixed (WordFrom r i size j w ∷ ps) x v placed h = absurd placed

no_more : (us : List Update) → us ++ [] ≡ us
no_more us = append-nil us

pub target_equation : (target : List Place) (e : Rhs) (v : Values) → ArePlaced target v → Apart target
    → (run (Set target e ∷ []) v ≡ v) ↔ HasParts target (value e v) v
target_equation target e v placed apart =
    let whole : run (Set target e ∷ []) v ≡ apply (target_updates target (value e v) v) v = ap (λ us. apply us v)
    (no_more (target_updates target (value e v) v)) in
    ((λ h. parts_from target (value e v) v placed apart (sym whole ∙ h)), (λ h. whole ∙ parts_fixed target (value e v) v placed h))
