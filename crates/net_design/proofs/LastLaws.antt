-- Updates change nothing exactly where each bit is what the last of them makes it.
use Rattle.std.proofs.Common.{◌≡◌, ℕ, ◌+◌, ◌-◌, ◌^◌, ◌<◌, ◌↔◌, ◌==◌, ◌&&◌, nat_le, nat_lt, Bool, true, false, if◌then◌else◌}
use Rattle.std.proofs.Common.{List, [], ◌∷◌, length, slice_index, slice_set, Option, Some, None, refl, ap, sym, subst, ◌∙◌}
use Rattle.std.specs.Int.{bit_at}
use Rattle.std.specs.Option.{option_or, unwrap_or}
use Rattle.std.proofs.lemmas.Bool.{eqb-true, leb-true, ltb-true, and_parts}
use Rattle.std.proofs.lemmas.List.{ext_get_or, get_or-set_same}
use Rattle.std.proofs.lemmas.Nat.Bits.{same_from_bits_below}
use Rattle.vidi_bits.proofs.BitLemmas.{bit_at-put_inside}
use Rattle.net_design.specs.declared.values.Target.{Target}
use Rattle.net_design.specs.declared.values.Target.TheVariants.{Net, Word}
use Rattle.net_design.specs.declared.values.Update.{Update}
use Rattle.net_design.specs.declared.values.Values.{Values}
use Rattle.vidi_bits.specs.Number.{put_of}
use Rattle.net_design.specs.Updates.{written_to, apply}
use Rattle.net_design.specs.Last.{touches, last_bit, bit_of, IsThere, HasLast, IsNarrow}
use Rattle.net_design.proofs.FrameLaws.{written_stays}
use Rattle.net_design.proofs.StateLaws.{written_long, applied_long, set_narrow, nets_narrow}

-- nets and words in each other's place
abbrev turned : Values → Values
turned v = record { nets = v.words; words = v.nets }

-- ---- one update
stays : (target t : Target) (u : Update) (v : Values) (k : ℕ) → k < 128 → touches (record u { target = target }) t k ≡ false
    → bit_of t k (written_to target u v) ≡ bit_of t k v
stays (Net n) (Net m) u v k l h = written_stays (Net n) u v m k l h
stays (Net n) (Word j) u v k l h = refl
stays (Word i) (Net m) u v k l h = refl
stays (Word i) (Word j) u v k l h = written_stays (Net i) u (turned v) j k l h

set_made : (xs : List ℕ) (n m low w y k : ℕ) → m < length xs → k < 128 → ((n == m) && (nat_le low k && nat_lt k (low + w))) ≡ true
    → bit_at (slice_index (slice_set xs n (put_of (slice_index xs n) low w y)) m) k ≡ bit_at y (k - low)
set_made xs n m low w y k there l h =
    let p = and_parts _ _ h in
    let q = and_parts _ _ p.1 in
    let e : n ≡ m = eqb-true n m p.0 in
    ap (λ j. bit_at (slice_index (slice_set xs j (put_of (slice_index xs j) low w y)) m) k) e
    ∙ ap (λ x. bit_at x k) (get_or-set_same xs m (put_of (slice_index xs m) low w y) 0 there)
    ∙ bit_at-put_inside (slice_index xs m) low w y k l (leb-true _ _ q.0) (ltb-true _ _ q.1)

made : (target t : Target) (u : Update) (v : Values) (k : ℕ) → IsThere t v → k < 128 → touches (record u { target = target }) t k ≡ true
    → bit_of t k (written_to target u v) ≡ bit_at u.number (k - u.low)
made (Net n) (Net m) u v k there l h = set_made v.nets n m u.low u.width u.number k there l h
made (Net n) (Word j) u v k there l h = absurd cc
made (Word i) (Net m) u v k there l h = absurd cc
made (Word i) (Word j) u v k there l h = set_made v.words i j u.low u.width u.number k there l h

by_test : (b : Bool) (x new old : ℕ) → (b ≡ true → new ≡ x) → (b ≡ false → new ≡ old) → new ≡ unwrap_or (if b then Some x else None) old
by_test true x new old h g = h refl
by_test false x new old h g = g refl

one : (u : Update) (t : Target) (v : Values) (k : ℕ) → IsThere t v → k < 128
    → bit_of t k (written_to u.target u v) ≡ unwrap_or (if touches u t k then Some (bit_at u.number (k - u.low)) else None) (bit_of t k v)
one u t v k there l =
    by_test (touches u t k) (bit_at u.number (k - u.low)) (bit_of t k (written_to u.target u v)) (bit_of t k v)
    (made u.target t u v k there l) (stays u.target t u v k l)

-- ---- a list of updates
still_there : (t : Target) (v w : Values) → length w.nets ≡ length v.nets → length w.words ≡ length v.words → IsThere t v → IsThere t w
still_there (Net m) v w hn hw h = subst (λ n. m < n) (sym hn) h
still_there (Word i) v w hn hw h = subst (λ n. i < n) (sym hw) h

or_unwrap : (o p : Option ℕ) (d : ℕ) → unwrap_or o (unwrap_or p d) ≡ unwrap_or (option_or o p) d
or_unwrap None p d = refl
or_unwrap (Some x) p d = refl

all_made : (us : List Update) (t : Target) (v : Values) (k : ℕ) → IsThere t v → k < 128
    → bit_of t k (apply us v) ≡ unwrap_or (last_bit us t k) (bit_of t k v)
all_made [] t v k there l = refl
all_made (u ∷ us) t v k there l =
    let w : Values = written_to u.target u v in
    let long = written_long u.target u v in
    let p : Option ℕ = if touches u t k then Some (bit_at u.number (k - u.low)) else None in
    all_made us t w k (still_there t v w long.0 long.1 there) l
    ∙ ap (unwrap_or (last_bit us t k)) (one u t v k there l)
    ∙ or_unwrap (last_bit us t k) p (bit_of t k v)

has_last : (us : List Update) (v : Values) → apply us v ≡ v → HasLast us v
has_last us v h t k b there l e =
    ap (λ w. bit_of t k w) (sym h) ∙ all_made us t v k there l ∙ ap (λ o. unwrap_or o (bit_of t k v)) e

same_bit : (o : Option ℕ) (d : ℕ) → ((b : ℕ) → o ≡ Some b → d ≡ b) → unwrap_or o d ≡ d
same_bit None d h = refl
same_bit (Some b) d h = sym (h b refl)

bit_stays : (us : List Update) (v : Values) → HasLast us v → (t : Target) (k : ℕ) → IsThere t v → k < 128
    → bit_of t k (apply us v) ≡ bit_of t k v
bit_stays us v h t k there l = all_made us t v k there l ∙ same_bit (last_bit us t k) (bit_of t k v) (λ b e. h t k b there l e)

word_narrow : (t : Target) (u : Update) (v : Values) → ((i : ℕ) → slice_index v.words i < 2 ^ 128) → (i : ℕ)
    → slice_index (written_to t u v).words i < 2 ^ 128
word_narrow (Net m) u v h i = h i
word_narrow (Word j) u v h i = set_narrow v.words j u.low u.width u.number h i

words_narrow : (us : List Update) (v : Values) → ((i : ℕ) → slice_index v.words i < 2 ^ 128) → (i : ℕ)
    → slice_index (apply us v).words i < 2 ^ 128
words_narrow [] v h = h
words_narrow (u ∷ us) v h = words_narrow us (written_to u.target u v) (word_narrow u.target u v h)

nothing_changes : (us : List Update) (v : Values) → IsNarrow v → HasLast us v → apply us v ≡ v
nothing_changes us v narrow h =
    let w : Values = apply us v in
    let long = applied_long us v in
    let nets : w.nets ≡ v.nets = ext_get_or 0 w.nets v.nets long.0
    (λ m l. same_from_bits_below 128 _ _ (nets_narrow us v narrow.nets m) (narrow.nets m)
    (λ k f. bit_stays us v h (Net m) k (subst (λ n. m < n) long.0 l) f)) in
    let words : w.words ≡ v.words = ext_get_or 0 w.words v.words long.1
    (λ i l. same_from_bits_below 128 _ _ (words_narrow us v narrow.words i) (narrow.words i)
    (λ k f. bit_stays us v h (Word i) k (subst (λ n. i < n) long.1 l) f)) in
    ap (λ xs. record { nets = xs; words = w.words }) nets ∙ ap (λ xs. record { nets = v.nets; words = xs }) words

pub last_updates : (us : List Update) (v : Values) → IsNarrow v → (apply us v ≡ v) ↔ HasLast us v
last_updates us v narrow = (has_last us v, nothing_changes us v narrow)
