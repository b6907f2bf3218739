-- A walk finds exactly the modules below a module.
use Rattle.std.proofs.Common.{◌≡◌, ◌≢◌, ℕ, zero, suc, ◌+◌, ◌<◌, ◌≤◌, ◌⊎◌, inl, inr, ◌↔◌, Bool, true, false, not, cond, List, [], ◌∷◌}
use Rattle.std.proofs.Common.{◌++◌, take, set, length, replicate, refl, sym, ap, subst, ◌∙◌, arith, length-append, append-nil}
use Rattle.std.proofs.Common.{append_assoc}
use Rattle.std.specs.Prelude.{slice_index, count_by}
use Rattle.std.specs.List.{Contains}
use Rattle.std.proofs.lemmas.List.{get_or-set_same, get_or-set_other, take_all, take_more, take-append-le, get_or_default, length-set}
use Rattle.std.proofs.lemmas.List.{length-replicate}
use Rattle.std.proofs.lemmas.List.Elements.{Contains-append_left, Contains-append_right, Contains-append_cases, Contains-push_cases}
use Rattle.std.proofs.lemmas.List.Sums.{sum_by-set, sum_by-cons, count_by-le-length}
use Rattle.vlog_size.proofs.vidi_bits_lemmas.Lists.{head_in, tail_in, none_in, cases_in}
use Rattle.vlog_size.specs.vidi_bits.Findings.{told_if}
use Rattle.vlog_hierarchy.specs.Outlines.{Outline}
use Rattle.vlog_hierarchy.specs.Nested.{kids, Below, direct, through}
use Rattle.vlog_hierarchy.specs.Reach.{is_marked, marked_all, fresh, AreBelow, IsClosed}

-- ---- elements

told_in : (b : Bool) (x y : ℕ) → Contains (told_if b x) y → x ≡ y
told_in true x y (zero, l, e) = e
told_in true x y (suc k, l, e) = absurd (omega arith)
told_in false x y h = absurd (none_in y h)

same_or : (j k : ℕ) → (j ≡ k) ⊎ (j ≢ k)
same_or zero zero = inl refl
same_or zero (suc k) = inr (λ e. absurd (omega (arith, e)))
same_or (suc j) zero = inr (λ e. absurd (omega (arith, e)))
same_or (suc j) (suc k) = one (same_or j k)
  where
    one : (j ≡ k) ⊎ (j ≢ k) → (suc j ≡ suc k) ⊎ (suc j ≢ suc k)
    one (inl e) = inl (ap suc e)
    one (inr n) = inr (λ e. n (omega (arith, e)))

-- ---- marks

pub long_all : (marks : List Bool) (ks : List ℕ) → length (marked_all marks ks) ≡ length marks
long_all marks [] = refl
long_all marks (k ∷ ks) = long_all (set marks k true) ks ∙ length-set marks k true

set_here : (marks : List Bool) (k j : ℕ) → k < length marks → k ≡ j → is_marked (set marks k true) j ≡ true
set_here marks k j within e = ap (is_marked (set marks k true)) (sym e) ∙ get_or-set_same marks k true false within

stays : (marks : List Bool) (k j : ℕ) → k < length marks → is_marked marks j ≡ true → is_marked (set marks k true) j ≡ true
stays marks k j within e = one (same_or j k)
  where
    one : (j ≡ k) ⊎ (j ≢ k) → is_marked (set marks k true) j ≡ true
    one (inl s) = set_here marks k j within (sym s)
    one (inr n) = get_or-set_other marks k j true false n ∙ e

rest_below : (marks : List Bool) (k : ℕ) (ks : List ℕ) → AreBelow (length marks) (k ∷ ks) → AreBelow (length (set marks k true)) ks
rest_below marks k ks below j h = let l = below j (tail_in k ks j h) in omega (arith, l, length-set marks k true)

stay_all : (marks : List Bool) (ks : List ℕ) → AreBelow (length marks) ks → (j : ℕ) → is_marked marks j ≡ true
    → is_marked (marked_all marks ks) j ≡ true
stay_all marks [] below j e = e
stay_all marks (k ∷ ks) below j e =
    stay_all (set marks k true) ks (rest_below marks k ks below) j (stays marks k j (below k (head_in k ks)) e)

there_all : (marks : List Bool) (ks : List ℕ) → AreBelow (length marks) ks → (j : ℕ) → Contains ks j
    → is_marked (marked_all marks ks) j ≡ true
there_all marks [] below j h = absurd (none_in j h)
there_all marks (k ∷ ks) below j h =
    one (cases_in k ks j h) (λ t. there_all (set marks k true) ks (rest_below marks k ks below) j t)
  where
    one : (k ≡ j) ⊎ Contains ks j → (Contains ks j → is_marked (marked_all marks (k ∷ ks)) j ≡ true)
        → is_marked (marked_all marks (k ∷ ks)) j ≡ true
    one (inl e) more = stay_all (set marks k true) ks (rest_below marks k ks below) j (set_here marks k j (below k (head_in k ks)) e)
    one (inr t) more = more t

only_in : (marks : List Bool) (ks : List ℕ) (j : ℕ) → Contains (fresh marks ks) j → Contains ks j
only_in marks [] j h = h
only_in marks (k ∷ ks) j h =
    one (Contains-append_cases (told_if (not (is_marked marks k)) k) (fresh (set marks k true) ks) j h)
    (λ r. only_in (set marks k true) ks j r)
  where
    one : Contains (told_if (not (is_marked marks k)) k) j ⊎ Contains (fresh (set marks k true) ks) j
        → (Contains (fresh (set marks k true) ks) j → Contains ks j) → Contains (k ∷ ks) j
    one (inl l) more = subst (Contains (k ∷ ks)) (told_in (not (is_marked marks k)) k j l) (head_in k ks)
    one (inr r) more = tail_in k ks j (more r)

-- ---- the list and the marks say the same

pub record Agree (marks : List Bool) (found : List ℕ) : Type 0 where
  pub listed : (k : ℕ) → is_marked marks k ≡ true → Contains found k
  pub marked : (k : ℕ) → Contains found k → is_marked marks k ≡ true
  pub count : count_by (λ (b : Bool). b) marks ≡ length found

now_in : (b : Bool) (found : List ℕ) (k : ℕ) → (b ≡ true → Contains found k) → Contains (found ++ told_if (not b) k) k
now_in true found k h = Contains-append_left found [] k (h refl)
now_in false found k h = Contains-append_right found (k ∷ []) k (head_in k [])

told_length : (b : Bool) (k : ℕ) → length (told_if (not b) k) + cond b 1 0 ≡ 1
told_length true k = refl
told_length false k = refl

grow_one : (marks : List Bool) (found : List ℕ) (k : ℕ) → k < length marks → Agree marks found
    → Agree (set marks k true) (found ++ told_if (not (is_marked marks k)) k)
grow_one marks found k within a = record {
  listed = λ j e. one_listed j e (same_or j k);
  marked = λ j h. one_marked j (Contains-append_cases found (told_if (not (is_marked marks k)) k) j h);
  count =
      let c : count_by (λ (b : Bool). b) (set marks k true) + cond (is_marked marks k) 1 0 ≡ count_by (λ (b : Bool). b) marks + 1 =
      sum_by-set (λ (b : Bool). cond b 1 0) marks k true false within in
      let l : length (found ++ told_if (not (is_marked marks k)) k) ≡ length found + length (told_if (not (is_marked marks k)) k) =
      length-append found (told_if (not (is_marked marks k)) k) in
      omega (arith, c, l, a.count, told_length (is_marked marks k) k);
}
  where
    one_listed : (j : ℕ) → is_marked (set marks k true) j ≡ true → (j ≡ k) ⊎ (j ≢ k)
        → Contains (found ++ told_if (not (is_marked marks k)) k) j
    one_listed j e (inl s) = subst (Contains (found ++ told_if (not (is_marked marks k)) k)) (sym s)
        (now_in (is_marked marks k) found k (a.listed k))
    one_listed j e (inr n) = Contains-append_left found (told_if (not (is_marked marks k)) k) j
        (a.listed j (sym (get_or-set_other marks k j true false n) ∙ e))

    one_marked : (j : ℕ) → Contains found j ⊎ Contains (told_if (not (is_marked marks k)) k) j → is_marked (set marks k true) j ≡ true
    one_marked j (inl l) = stays marks k j within (a.marked j l)
    one_marked j (inr r) = set_here marks k j within (told_in (not (is_marked marks k)) k j r)

grow_all : (marks : List Bool) (found ks : List ℕ) → AreBelow (length marks) ks → Agree marks found
    → Agree (marked_all marks ks) (found ++ fresh marks ks)
grow_all marks found [] below a = subst (Agree marks) (sym (append-nil found)) a
grow_all marks found (k ∷ ks) below a =
    subst (Agree (marked_all (set marks k true) ks))
    (append_assoc found (told_if (not (is_marked marks k)) k) (fresh (set marks k true) ks))
    (grow_all (set marks k true) (found ++ told_if (not (is_marked marks k)) k) ks (rest_below marks k ks below)
    (grow_one marks found k (below k (head_in k ks)) a))

count_none : (marks : List Bool) → ((k : ℕ) → is_marked marks k ≡ false) → count_by (λ (b : Bool). b) marks ≡ 0
count_none [] none = refl
count_none (b ∷ bs) none =
    let s : count_by (λ (y : Bool). y) (b ∷ bs) ≡ cond b 1 0 + count_by (λ (y : Bool). y) bs =
    sum_by-cons (λ (x : Bool). cond x 1 0) b bs in
    let weight : Bool → ℕ = λ x. cond x 1 0 in
    let z : weight b ≡ weight false = ap weight (none 0) in
    omega (arith, s, z, count_none bs (λ k. none (suc k)))

agree_none : (marks : List Bool) → ((k : ℕ) → is_marked marks k ≡ false) → Agree marks []
agree_none marks none = record {
  listed = λ k e. let off : false ≡ true = sym (none k) ∙ e in absurd (cc);
  marked = λ k h. absurd (none_in k h);
  count = count_none marks none;
}

-- ---- the walk

-- all that is found is below, and the instances of the first `next` of them are found
pub record IsReach (os : List Outline) (from next : ℕ) (marks : List Bool) (found : List ℕ) : Type 0 where
  pub long : length marks ≡ length os
  pub agree : Agree marks found
  pub sound : (k : ℕ) → Contains found k → Below os from k
  pub start : (k : ℕ) → Contains (kids os from) k → Contains found k
  pub closed : (a k : ℕ) → Contains (take next found) a → Contains (kids os a) k → Contains found k

kids_below : (os : List Outline) (marks : List Bool) (a : ℕ) → IsClosed os → length marks ≡ length os → AreBelow (length marks) (kids os a)
kids_below os marks a closed long k h = let l = closed a k h in omega (arith, l, long)

pub start_reach : (os : List Outline) (from : ℕ) (marks : List Bool) → IsClosed os → length marks ≡ length os
    → ((k : ℕ) → is_marked marks k ≡ false)
    → IsReach os from 0 (marked_all marks (kids os from)) (fresh marks (kids os from))
start_reach os from marks closed long none =
    let below = kids_below os marks from closed long in
    let agree : Agree (marked_all marks (kids os from)) (fresh marks (kids os from)) =
    grow_all marks [] (kids os from) below (agree_none marks none) in
    record {
      long = long_all marks (kids os from) ∙ long;
      agree = agree;
      sound = λ k h. direct (only_in marks (kids os from) k h);
      start = λ k h. agree.listed k (there_all marks (kids os from) below k h);
      closed = λ a k h. absurd (none_in a h);
    }

place_in : (found : List ℕ) (next place : ℕ) → next < length found → place ≡ slice_index found next → Contains found place
place_in found next place l at = (next, l, get_or_default found next place 0 l ∙ sym at)

pub next_reach : (os : List Outline) (from next : ℕ) (marks : List Bool) (found : List ℕ) (place : ℕ) → IsClosed os
    → IsReach os from next marks found → next < length found → place ≡ slice_index found next
    → IsReach os from (next + 1) (marked_all marks (kids os place)) (found ++ fresh marks (kids os place))
next_reach os from next marks found place closed r l at =
    let ks = kids os place in
    let below = kids_below os marks place closed r.long in
    let agree : Agree (marked_all marks ks) (found ++ fresh marks ks) = grow_all marks found ks below r.agree in
    let front : take (next + 1) (found ++ fresh marks ks) ≡ take next found ++ slice_index found next ∷ [] =
    take-append-le (next + 1) found (fresh marks ks) (omega arith) ∙ take_more found next 0 l in
    record {
      long = long_all marks ks ∙ r.long;
      agree = agree;
      sound = λ k h. one_sound k (Contains-append_cases found (fresh marks ks) k h);
      start = λ k h. Contains-append_left found (fresh marks ks) k (r.start k h);
      closed = λ a k h m. one_closed a k
          (Contains-push_cases (take next found) (slice_index found next) a (subst (λ (xs : List ℕ). Contains xs a) front h)) m
          (λ e. agree.listed k (there_all marks ks below k (subst (λ i. Contains (kids os i) k) (sym e ∙ sym at) m)));
    }
  where
    one_sound : (k : ℕ) → Contains found k ⊎ Contains (fresh marks (kids os place)) k → Below os from k
    one_sound k (inl h) = r.sound k h
    one_sound k (inr h) = through place (r.sound place (place_in found next place l at)) (only_in marks (kids os place) k h)

    one_closed : (a k : ℕ) → Contains (take next found) a ⊎ (slice_index found next ≡ a) → Contains (kids os a) k
        → (slice_index found next ≡ a → Contains (found ++ fresh marks (kids os place)) k)
        → Contains (found ++ fresh marks (kids os place)) k
    one_closed a k (inl h) m new = Contains-append_left found (fresh marks (kids os place)) k (r.closed a k h m)
    one_closed a k (inr e) m new = new e

pub few_found : (os : List Outline) (from next : ℕ) (marks : List Bool) (found : List ℕ) → IsReach os from next marks found
    → length found ≤ length os
few_found os from next marks found r =
    let c : count_by (λ (b : Bool). b) marks ≤ length marks = count_by-le-length (λ (b : Bool). b) marks in
    omega (arith, c, r.agree.count, r.long)

complete : (os : List Outline) (from next : ℕ) (marks : List Bool) (found : List ℕ) → IsReach os from next marks found
    → take next found ≡ found → (k : ℕ) → Below os from k → Contains found k
complete os from next marks found r all k (direct h) = r.start k h
complete os from next marks found r all k (through c b h) =
    r.closed c k (subst (λ (xs : List ℕ). Contains xs c) (sym all) (complete os from next marks found r all c b)) h

pub end_reach : (os : List Outline) (from next : ℕ) (marks : List Bool) (found : List ℕ) → IsReach os from next marks found
    → length found ≤ next → (k : ℕ) → (is_marked marks k ≡ true) ↔ Below os from k
end_reach os from next marks found r le k = (
  (λ e. r.sound k (r.agree.listed k e)),
  (λ b. r.agree.marked k (complete os from next marks found r (take_all next found le) k b)),
)

-- a list of `false` marks nothing
none_marked : (n k : ℕ) → is_marked (replicate n false) k ≡ false
none_marked zero k = refl
none_marked (suc n) zero = refl
none_marked (suc n) (suc k) = none_marked n k

pub unmarked_long : (marks : List Bool) (n : ℕ) → marks ≡ replicate n false → length marks ≡ n
unmarked_long marks n e = ap (length {A = Bool}) e ∙ length-replicate n false

pub start_at : (os : List Outline) (from : ℕ) (marks now : List Bool) (found : List ℕ) → IsClosed os → length marks ≡ length os
    → marks ≡ replicate (length os) false
    → now ≡ marked_all marks (kids os from) → found ≡ fresh marks (kids os from) → IsReach os from 0 now found
start_at os from marks now found closed long unmarked m f =
    let none : (k : ℕ) → is_marked marks k ≡ false = λ k. ap (λ (x : List Bool). is_marked x k) unmarked ∙ none_marked (length os) k in
    subst (λ (x : List Bool). IsReach os from 0 x found) (sym m)
    (subst (λ (x : List ℕ). IsReach os from 0 (marked_all marks (kids os from)) x) (sym f) (start_reach os from marks closed long none))

pub next_at : (os : List Outline) (from next : ℕ) (marks now : List Bool) (found all : List ℕ) (place : ℕ) → IsClosed os
    → IsReach os from next marks found → next < length found → place ≡ slice_index found next
    → now ≡ marked_all marks (kids os place) → all ≡ found ++ fresh marks (kids os place) → IsReach os from (next + 1) now all
next_at os from next marks now found all place closed r l at m f =
    subst (λ (x : List Bool). IsReach os from (next + 1) x all) (sym m)
    (subst (λ (x : List ℕ). IsReach os from (next + 1) (marked_all marks (kids os place)) x) (sym f)
    (next_reach os from next marks found place closed r l at))

pub place_within : (os : List Outline) (from next : ℕ) (marks : List Bool) (found : List ℕ) (place : ℕ) → IsClosed os
    → IsReach os from next marks found → next < length found → place ≡ slice_index found next → place < length os
place_within os from next marks found place closed r l at = below_long place (r.sound place (place_in found next place l at))
  where
    below_long : (k : ℕ) → Below os from k → k < length os
    below_long k (direct h) = closed from k h
    below_long k (through c b h) = closed c k h
