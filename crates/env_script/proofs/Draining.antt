-- The cycles of a plan, line by line.
use Rattle.std.proofs.Common.{◌≡◌, ℕ, zero, suc, ◌+◌, ◌-◌, ◌<◌, ◌≤◌, ◌%◌, List, [], ◌∷◌, ◌++◌, length, get_or, Some, None}
use Rattle.std.proofs.Common.{◌⊎◌, true, false, subst, leb, leb-true, leb-false, refl, sym, ap, ◌∙◌, arith, inl, inr, replicate}
use Rattle.std.proofs.Common.{length-append}
use Rattle.std.proofs.lemmas.List.{get_or_default, length-replicate, get_or-replicate, get_or_append_left, get_or-append_right}
use Rattle.std.proofs.lemmas.List.Sorted.{IsPartitionedBy-leb}
use Rattle.std.proofs.lemmas.Option.{slice_get-get_or, get_or_from_slice_get}
use Rattle.std.specs.List.Sorted.{IsPartitionedBy, IsPartitionPoint}
use Rattle.std.specs.Prelude.{slice_get}
use Rattle.env_script.specs.declared.stalls.Drain.{Drain}
use Rattle.env_script.specs.Plan.{allowance_in, allowances, allowance_at, AreSome, ends_from}

-- the line in which a cycle of the plan lies gives its allowance
in_line : (drains : List Drain) (start at i : ℕ) → start ≤ at
    → ((k : ℕ) → k < i → get_or (ends_from start drains) k 0 ≤ at)
    → (i < length drains → at < get_or (ends_from start drains) i 0)
    → get_or (allowances drains) (at - start) None ≡ allowance_in (slice_get drains i)
in_line [] start at i from before within = refl
in_line (d ∷ drains) start at zero from before within =
    let short : at < start + d.cycles = within (omega arith) in
    let inside : at - start < d.cycles = omega arith in
    get_or_append_left (replicate d.cycles d.allowance) (allowances drains) None (at - start)
    (omega (arith, length-replicate d.cycles d.allowance))
    ∙ get_or-replicate d.cycles (at - start) d.allowance None inside
in_line (d ∷ drains) start at (suc i) from before within =
    let over : start + d.cycles ≤ at = before 0 (omega arith) in
    let rest : (at - start) - d.cycles ≡ at - (start + d.cycles) = omega arith in
    get_or-append_right (replicate d.cycles d.allowance) (allowances drains) d.cycles (at - start) None
    (length-replicate d.cycles d.allowance) (omega arith)
    ∙ ap (λ k. get_or (allowances drains) k None) rest
    ∙ in_line drains (start + d.cycles) at i over (λ k h. before (suc k) (omega (arith, h))) (λ h. within (omega (arith, h)))

-- the last end is the length of the whole plan
whole : (d : Drain) (drains : List Drain) (start : ℕ)
    → get_or (ends_from start (d ∷ drains)) (length drains) 0 ≡ start + length (allowances (d ∷ drains))
whole d [] start = omega (arith, length-append (replicate d.cycles d.allowance) [], length-replicate d.cycles d.allowance)
whole d (e ∷ drains) start =
    omega (
      arith,
      whole e drains (start + d.cycles),
      length-append (replicate d.cycles d.allowance) (allowances (e ∷ drains)),
      length-replicate d.cycles d.allowance,
    )

pub length-ends : (drains : List Drain) (start : ℕ) → length (ends_from start drains) ≡ length drains
length-ends [] start = refl
length-ends (d ∷ drains) start = ap suc (length-ends drains (start + d.cycles))

-- the ends rise
above : (drains : List Drain) (start k : ℕ) → k < length drains → start ≤ get_or (ends_from start drains) k 0
above [] start k within = absurd (omega arith)
above (d ∷ drains) start zero within = omega arith
above (d ∷ drains) start (suc k) within = omega (arith, above drains (start + d.cycles) k (omega arith))

pub rises : (drains : List Drain) (start i j : ℕ) → i ≤ j → j < length drains
    → get_or (ends_from start drains) i 0 ≤ get_or (ends_from start drains) j 0
rises [] start i j le within = absurd (omega arith)
rises (d ∷ drains) start zero zero le within = omega arith
rises (d ∷ drains) start zero (suc j) le within = above drains (start + d.cycles) j (omega arith)
rises (d ∷ drains) start (suc i) zero le within = absurd (omega arith)
rises (d ∷ drains) start (suc i) (suc j) le within = rises drains (start + d.cycles) i j (omega arith) (omega arith)

pub drains_at : (drains : List Drain) (at i : ℕ)
    → ((k : ℕ) → k < i → get_or (ends_from 0 drains) k 0 ≤ at)
    → (i < length drains → at < get_or (ends_from 0 drains) i 0)
    → get_or (allowances drains) at None ≡ allowance_in (slice_get drains i)
drains_at drains at i before within =
    let same : at ≡ at - 0 = omega arith in ap (λ k. get_or (allowances drains) k None) same
    ∙ in_line drains 0 at i (omega arith) before within

-- ---- what the ends tell

-- what the last of the ends is
pub total_is : (drains : List Drain) (ends : List ℕ) (total : ℕ) → ends ≡ ends_from 0 drains
    → slice_get ends (length ends - 1) ≡ Some total
    → (0 < length drains) × (total ≡ length (allowances drains))
total_is [] ends total are last =
    let off : None ≡ Some total = ap (λ (xs : List ℕ). slice_get xs (length xs - 1)) (sym are) ∙ last in absurd (cc)
total_is (d ∷ drains) ends total are last =
    let n : length ends ≡ suc (length drains) = ap length are ∙ length-ends (d ∷ drains) 0 in
    let at : get_or (ends_from 0 (d ∷ drains)) (length drains) 0 ≡ total =
    ap (λ (xs : List ℕ). get_or xs (length drains) 0) (sym are)
    ∙ get_or_from_slice_get ends (length drains) total 0 (ap (slice_get ends) (omega (arith, n)) ∙ last) in (
      omega arith,
      omega (arith, at, whole d drains 0),
    )

pub some_cycles : (drains : List Drain) → AreSome drains → 0 < length drains → 0 < length (allowances drains)
some_cycles [] some long = absurd (omega arith)
some_cycles (d ∷ drains) some long =
    omega (
      arith,
      some 0 d refl,
      length-append (replicate d.cycles d.allowance) (allowances drains),
      length-replicate d.cycles d.allowance,
    )

-- without a last end there is no line
pub no_line : (drains : List Drain) (ends : List ℕ) (cycle : ℕ) → ends ≡ ends_from 0 drains
    → slice_get ends (length ends - 1) ≡ None → None ≡ allowance_at drains cycle
no_line [] ends cycle are last = refl
no_line (d ∷ drains) ends cycle are last =
    let n : length ends ≡ suc (length drains) = ap length are ∙ length-ends (d ∷ drains) 0 in
    let off : None ≡ Some (get_or ends (length ends - 1) 0) =
    sym last ∙ slice_get-get_or ends (length ends - 1) 0 (omega arith) in absurd (cc)

pub parted : (drains : List Drain) (ends : List ℕ) (at : ℕ) → ends ≡ ends_from 0 drains → IsPartitionedBy (λ y. leb y at) ends
parted drains ends at are = IsPartitionedBy-leb (λ (y : ℕ). y) ends at
    (λ i j d le within.
    let n : length ends ≡ length drains = ap length are ∙ length-ends drains 0 in
    let i_in : i < length ends = omega arith in
    omega (
      arith,
      rises drains 0 i j le (omega (arith, n, within)),
      get_or_default ends i d 0 i_in,
      get_or_default ends j d 0 within,
      ap (λ (xs : List ℕ). get_or xs i 0) are,
      ap (λ (xs : List ℕ). get_or xs j 0) are,
    ))

pub allowed : (drains : List Drain) (ends : List ℕ) (cycle total at i : ℕ) → ends ≡ ends_from 0 drains
    → slice_get ends (length ends - 1) ≡ Some total → at ≡ cycle % total
    → IsPartitionPoint (λ y. leb y at ≡ true) (λ y. leb y at ≡ false) ends i
    → allowance_in (slice_get drains i) ≡ allowance_at drains cycle
allowed drains ends cycle total at i are last at_is point =
    let n : length ends ≡ length drains = ap length are ∙ length-ends drains 0 in
    let whole_is = (total_is drains ends total are last).1 in
    sym (ap (λ k. get_or (allowances drains) (cycle % k) None) (sym whole_is)
    ∙ ap (λ k. get_or (allowances drains) k None) (sym at_is)
    ∙ drains_at drains at i
    (λ k h. omega (arith, leb-true (get_or ends k 0) at (point.0 k 0 (omega arith) h), ap (λ (xs : List ℕ). get_or xs k 0) are))
    (λ h. omega (
      arith,
      leb-false (get_or ends i 0) at (point.1 i 0 (omega arith) (omega (arith, h, n))),
      ap (λ (xs : List ℕ). get_or xs i 0) are,
    )))

-- ---- one line more

at_push : (drains : List Drain) (d x : Drain) (k : ℕ) → slice_get (drains ++ d ∷ []) k ≡ Some x
    → (slice_get drains k ≡ Some x) ⊎ (d ≡ x)
at_push [] d x zero e = inr (cc)
at_push [] d x (suc k) e = let off : None ≡ Some x = e in absurd (cc)
at_push (y ∷ drains) d x zero e = inl e
at_push (y ∷ drains) d x (suc k) e = at_push drains d x k e

pub some_push : (old new : List Drain) (d : Drain) → new ≡ old ++ d ∷ [] → 1 ≤ d.cycles → AreSome old → AreSome new
some_push old new d grown one some k x at =
    elim (at_push old d x k (ap (λ (xs : List Drain). slice_get xs k) (sym grown) ∙ at)) [
      | inl e ↦ some k x e
      | inr e ↦ subst (λ (y : Drain). 1 ≤ y.cycles) e one
    ]
