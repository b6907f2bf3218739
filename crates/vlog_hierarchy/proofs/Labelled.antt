-- Labels that never fall keep to themselves on the way round from a module to itself.
use Rattle.std.proofs.Common.{◌≡◌, ℕ, zero, suc, ◌<◌, ◌≤◌, ◌↔◌, ◌⊎◌, inl, inr, IsTrue, Bool, List, [], ◌∷◌}
use Rattle.std.proofs.Common.{length, get_or, map, refl, sym, ap, subst, ◌∙◌, arith, Option, Some, None}
use Rattle.std.specs.List.{Contains, All, Any}
use Rattle.std.proofs.lemmas.List.{length-map}
use Rattle.std.proofs.lemmas.List.Elements.{All-contains, All-contains_itself, All-map, All-weaker}
use Rattle.std.proofs.lemmas.Bool.{cases_lt}
use Rattle.std.proofs.lemmas.Option.{slice_get_past}
use Rattle.vlog_size.proofs.vidi_bits_lemmas.Lists.{none_in, tail_in}
use Rattle.vlog_hierarchy.specs.declared.outline.Child as child
use Rattle.vlog_hierarchy.specs.declared.outline.Outline as outline
use Rattle.vlog_hierarchy.specs.Outlines.{Child, Outline, children_in}
use Rattle.vlog_hierarchy.specs.Plain.{plain_outline, plain_outlines}
use Rattle.vlog_hierarchy.specs.Nested.{kids, Below, direct, through, IsNested, IsFirstNested}
use Rattle.vlog_hierarchy.specs.Reach.{child_places}
use Rattle.vlog_hierarchy.specs.Labels.{label_of, HoldsAbove, NeverFall, KeepsLabel, IsOpen, IsFirstOpen}
use Rattle.vlog_hierarchy.proofs.Closed.{visit_same}

-- ---- the law

-- on a way down from module a, the first module on it has no higher label than the last
first_on_way : (os : List Outline) (labels : List ℕ) (a c : ℕ) → NeverFall os labels → Below os a c
    → (b : ℕ) × Contains (kids os a) b × (label_of labels b ≤ label_of labels c)
first_on_way os labels a c fall (direct h) = (c, h, omega arith)
first_on_way os labels a c fall (through d below h) = one (first_on_way os labels a d fall below)
  where
    one : ((b : ℕ) × Contains (kids os a) b × (label_of labels b ≤ label_of labels d))
        → (b : ℕ) × Contains (kids os a) b × (label_of labels b ≤ label_of labels c)
    one (b, k, l) = let m = fall d c h in (b, k, omega (arith, l, m))

round_keeps : (os : List Outline) (labels : List ℕ) (a : ℕ) → NeverFall os labels → Below os a a → KeepsLabel os labels a
round_keeps os labels a fall below = one (first_on_way os labels a a fall below)
  where
    one : ((b : ℕ) × Contains (kids os a) b × (label_of labels b ≤ label_of labels a)) → KeepsLabel os labels a
    one (b, k, l) = let m = fall a b k in (b, k, omega (arith, l, m))

-- so a module at fault is open
nested_open : (os : List Outline) (labels : List ℕ) (top k : ℕ) → NeverFall os labels → IsNested os top k → IsOpen os labels top k
nested_open os labels top k fall (under, below) = (under, round_keeps os labels k fall below)

pub first_none : (os : List Outline) (labels : List ℕ) (top : ℕ) → NeverFall os labels → IsFirstOpen os labels top None
    → IsFirstNested os top None
first_none os labels top fall none k nested = none k (nested_open os labels top k fall nested)

pub first_some : (os : List Outline) (labels : List ℕ) (top k : ℕ) → NeverFall os labels → IsFirstOpen os labels top (Some k)
    → Below os k k → IsFirstNested os top (Some k)
first_some os labels top k fall first below =
    ((first.0.0, below), (λ j l nested. first.1 j l (nested_open os labels top j fall nested)))

-- ---- past the last module

pub past_empty : (os : List Outline) (a b : ℕ) → length os ≤ a → Contains (kids os a) b → ⊥
past_empty os a b past h =
    none_in b
    (subst (λ (o : Option Outline). Contains (map (λ (c : Child). c.place) (children_in o)) b) (slice_get_past os a past) h)

-- ---- instances of the code

place_in : (cs : List child.Child) (c : child.Child) → Contains cs c → Contains (child_places cs) c.place
place_in [] c h = absurd (none_in c h)
place_in (x ∷ xs) c (zero, l, e) = (0, omega arith, ap (λ (y : child.Child). y.place) e)
place_in (x ∷ xs) c (suc k, l, e) = tail_in x.place (child_places xs) c.place (place_in xs c (k, omega arith, e))

holder_of : (labels : List ℕ) (label : ℕ) (cs : List child.Child) (b : ℕ) → Contains (child_places cs) b → label_of labels b ≡ label
    → Any (λ (c : child.Child). label_of labels c.place ≡ label) cs
holder_of labels label [] b h q = absurd (none_in b h)
holder_of labels label (c ∷ cs) b (zero, l, e) q = (0, c, omega arith, refl, ap (label_of labels) e ∙ q)
holder_of labels label (c ∷ cs) b (suc k, l, e) q = one (holder_of labels label cs b (k, omega arith, e) q)
  where
    one : Any (λ (x : child.Child). label_of labels x.place ≡ label) cs
        → Any (λ (x : child.Child). label_of labels x.place ≡ label) (c ∷ cs)
    one (i, x, within, at, is) = (suc i, x, omega arith, at, is)

pub holds_at : (os : List outline.Outline) (labels : List ℕ) (i : ℕ) (o : outline.Outline) (cs : List child.Child) (label : ℕ) (t : Bool)
    → i < length os → o ≡ get_or os i o → cs ≡ o.children → label ≡ label_of labels i
    → IsTrue t ↔ All (λ (c : child.Child). label ≤ label_of labels c.place) cs → IsTrue t ↔ HoldsAbove (plain_outlines os) labels i
holds_at os labels i o cs label t within at is same iff =
    let places : child_places cs ≡ kids (plain_outlines os) i = visit_same os i o cs within at is in (
      (λ yes b h.
          let l : label ≤ label_of labels b =
          All-contains (λ (k : ℕ). label ≤ label_of labels k) (child_places cs) b
          (All-map (λ (k : ℕ). label ≤ label_of labels k) (λ (c : child.Child). c.place) cs (iff.0 yes))
          (subst (λ (xs : List ℕ). Contains xs b) (sym places) h) in
          omega (arith, l, same)),
      (λ holds.
          iff.1
          (All-weaker (Contains cs) (λ (c : child.Child). label ≤ label_of labels c.place)
          (λ c h.
          let l = holds c.place (subst (λ (xs : List ℕ). Contains xs c.place) places (place_in cs c h)) in
          omega (arith, l, same)) cs (All-contains_itself cs))),
    )

pub keeps_at : (os : List outline.Outline) (labels : List ℕ) (i : ℕ) (o : outline.Outline) (cs : List child.Child) (label : ℕ) (t : Bool)
    → i < length os → o ≡ get_or os i o → cs ≡ o.children → label ≡ label_of labels i
    → IsTrue t ↔ Any (λ (c : child.Child). label_of labels c.place ≡ label) cs → IsTrue t ↔ KeepsLabel (plain_outlines os) labels i
keeps_at os labels i o cs label t within at is same iff =
    let places : child_places cs ≡ kids (plain_outlines os) i = visit_same os i o cs within at is in
    ((λ yes. to places (iff.0 yes)), (λ keeps. iff.1 (from places keeps)))
  where
    to : child_places cs ≡ kids (plain_outlines os) i → Any (λ (c : child.Child). label_of labels c.place ≡ label) cs
        → KeepsLabel (plain_outlines os) labels i
    to places (k, c, l, e, q) =
        (c.place, subst (λ (xs : List ℕ). Contains xs c.place) places (place_in cs c (k, l, e)), q ∙ same)

    from : child_places cs ≡ kids (plain_outlines os) i → KeepsLabel (plain_outlines os) labels i
        → Any (λ (c : child.Child). label_of labels c.place ≡ label) cs
    from places (b, h, q) = holder_of labels label cs b (subst (λ (xs : List ℕ). Contains xs b) (sym places) h) (q ∙ sym same)

-- ---- all modules of the code

pub all_hold : (os : List outline.Outline) (labels : List ℕ) (n : ℕ) → length os ≤ n
    → ((a : ℕ) → a < n → HoldsAbove (plain_outlines os) labels a) → NeverFall (plain_outlines os) labels
all_hold os labels n past holds a = one (cases_lt a n)
  where
    one : (a < n) ⊎ (n ≤ a) → HoldsAbove (plain_outlines os) labels a
    one (inl l) = holds a l
    one (inr g) =
        λ b h. absurd (past_empty (plain_outlines os) a b (omega (arith, g, past, length-map os plain_outline)) h)

pub none_open : (os : List outline.Outline) (labels : List ℕ) (top n : ℕ) → length os ≤ n
    → ((j : ℕ) → j < n → IsOpen (plain_outlines os) labels top j → ⊥) → (k : ℕ) → IsOpen (plain_outlines os) labels top k → ⊥
none_open os labels top n past none k (under, (b, h, same)) = one (cases_lt k n)
  where
    one : (k < n) ⊎ (n ≤ k) → ⊥
    one (inl l) = none k l (under, (b, h, same))
    one (inr g) = past_empty (plain_outlines os) k b (omega (arith, g, past, length-map os plain_outline)) h
