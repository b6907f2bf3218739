-- The steps of the search keep what is said of it.
use Rattle.std.proofs.Common.{◌≡◌, ◌≢◌, ℕ, suc, ◌+◌, ◌-◌, ◌<◌, ◌≤◌, List, [], ◌∷◌, ◌++◌, ◌⊎◌, inl, inr, ⊎_elim, length, length-append}
use Rattle.std.proofs.Common.{slice_index, slice_set, get_or, refl, ap, sym, subst, append_assoc, ◌∙◌, arith}
use Rattle.std.specs.List.{Contains, sum_by}
use Rattle.std.proofs.lemmas.Bool.{cases_lt}
use Rattle.std.proofs.lemmas.List.{get_or-set_same, get_or-set_other, get_or_append_left, get_or_default, length-set, append-nil}
use Rattle.std.proofs.lemmas.List.Elements.{Contains-append_cases, Contains-append_left, Contains-append_right}
use Rattle.std.proofs.lemmas.List.Sums.{sum_by-set}
use Rattle.std.proofs.Math.Seq.{get_or-append_seam}
use Rattle.vidi_bits.proofs.Lists.{head_in}
use Rattle.net_design.specs.Names.{list_at}
use Rattle.net_order.specs.declared.search.Mark.{Mark}
use Rattle.net_order.specs.declared.search.Mark.TheVariants.{Fresh, Open, Done}
use Rattle.net_order.specs.Order.{Follows}
use Rattle.net_order.specs.Graph.{Graph, Points, IsGraph}
use Rattle.net_order.specs.Search.{IsSound, StayBegun, mark_of, steps_left, weight}
use Rattle.net_order.proofs.Members.{single}

same_or_not : (i j : ℕ) → (i ≡ j) ⊎ (i ≢ j)
same_or_not i j = ⊎_elim
    (λ (l : i < j). inr (λ e. absurd (omega arith)))
    (λ (g : j ≤ i). ⊎_elim (λ (l : j < i). inr (λ e. absurd (omega arith))) (λ (h : i ≤ j). inl (omega arith)) (cases_lt j i))
    (cases_lt i j)

pub follows_push : (n : ℕ) (R : ℕ → ℕ → Type 0) (before xs : List ℕ) (i : ℕ) → Follows n R before xs → i < n
    → (Contains (before ++ xs) i → ⊥) → ((j : ℕ) → R i j → Contains (before ++ xs) j) → Follows n R before (xs ++ i ∷ [])
follows_push n R before [] i f l out reads =
    let e = append-nil before in
    (l, (λ c. out (subst (λ (z : List ℕ). Contains z i) (sym e) c)), (λ j r. subst (λ (z : List ℕ). Contains z j) e (reads j r)), tt)
follows_push n R before (x ∷ xs) i f l out reads =
    let e = append_assoc before (x ∷ []) xs in (
      f.0,
      f.1,
      f.2,
      follows_push n R (before ++ x ∷ []) xs i f.3 l
          (λ c. out (subst (λ (z : List ℕ). Contains z i) e c))
          (λ j r. subst (λ (z : List ℕ). Contains z j) (sym e) (reads j r)),
    )

module _ (g : Graph) (marks : List Mark) (left path order : List ℕ) (s : IsSound g marks left path order) (i : ℕ) (l : i < length g) where
  inside : i < length marks
  inside = subst (λ n. i < n) (sym s.marks_long) l

  -- the mark of i is replaced: it is now v, and other marks stay
  now : (v : Mark) (j : ℕ) → j ≡ i → mark_of (slice_set marks i v) j ≡ v
  now v j e = subst (λ z. mark_of (slice_set marks i v) z ≡ v) (sym e) (get_or-set_same marks i v Fresh inside)

  stays : (v : Mark) (j : ℕ) → j ≢ i → mark_of (slice_set marks i v) j ≡ mark_of marks j
  stays v j d = get_or-set_other marks i j v Fresh d

  kept : (u v w : Mark) (j : ℕ) → mark_of marks i ≡ u → u ≢ w → mark_of marks j ≡ w → mark_of (slice_set marks i v) j ≡ w
  kept u v w j is d h = stays v j (λ e. d (sym is ∙ ap (mark_of marks) (sym e) ∙ h)) ∙ h

  pub stay_begun : (v : Mark) → v ≢ Fresh → StayBegun marks (slice_set marks i v)
  stay_begun v d j h = ⊎_elim
      (λ (e : j ≡ i). λ f. d (sym (now v j e) ∙ f))
      (λ (n : j ≢ i). λ f. h (sym (stays v j n) ∙ f))
      (same_or_not j i)

  pub fewer : (u v : Mark) → mark_of marks i ≡ u → weight v < weight u → steps_left (slice_set marks i v) left < steps_left marks left
  fewer u v is d =
      let e : sum_by weight (slice_set marks i v) + weight (get_or marks i Fresh) ≡ sum_by weight marks
      + weight v = sum_by-set weight marks i v Fresh inside in
      let w : weight (get_or marks i Fresh) ≡ weight u = ap weight is in
      omega (arith, e, w, d)

  module _ (fresh : mark_of marks i ≡ Fresh) (read : (t : ℕ) → t + 1 ≡ length path → Points g (slice_index path t) i) where
    abbrev longer : List ℕ
    longer = path ++ i ∷ []

    old_place : (t : ℕ) → t < length path → slice_index longer t ≡ slice_index path t
    old_place t h = get_or_append_left path (i ∷ []) 0 t h

    new_place : (t : ℕ) → t ≡ length path → slice_index longer t ≡ i
    new_place t e = ap (slice_index longer) e ∙ get_or-append_seam path i [] 0

    in_longer : (t : ℕ) → t < length longer → (t < length path) ⊎ (t ≡ length path)
    in_longer t h =
        let n : length longer ≡ length path + 1 = length-append path (i ∷ []) in
        ⊎_elim (λ (a : t < length path). inl a) (λ (b : length path ≤ t). inr (omega (arith, h, n, b))) (cases_lt t (length path))

    open_place : (t : ℕ) → t < length path → mark_of (slice_set marks i Open) (slice_index path t) ≡ Open
    open_place t h = kept Fresh Open Open _ fresh (λ e. absurd cc) (s.on_path t h).1

    pub open_sound : IsSound g (slice_set marks i Open) left longer order
    open_sound = record {
      marks_long = length-set marks i Open ∙ s.marks_long;
      left_long = s.left_long;
      done = λ j h. ⊎_elim
          (λ (e : j ≡ i). let f = sym (now Open j e) ∙ h in absurd cc)
          (λ (n : j ≢ i). s.done j (sym (stays Open j n) ∙ h))
          (same_or_not j i);
      placed = λ j c. kept Fresh Open Done j fresh (λ e. absurd cc) (s.placed j c);
      opened = λ j h. ⊎_elim
          (λ (e : j ≡ i). Contains-append_right path (i ∷ []) j (subst (λ z. Contains (z ∷ []) j) e (head_in j [])))
          (λ (n : j ≢ i). Contains-append_left path (i ∷ []) j (s.opened j (sym (stays Open j n) ∙ h)))
          (same_or_not j i);
      on_path = λ t h. ⊎_elim
          (λ (a : t < length path). subst (λ x. (x < length g) × (mark_of (slice_set marks i Open) x ≡ Open)) (sym (old_place t a))
          ((s.on_path t a).0, open_place t a))
          (λ (e : t ≡ length path). subst (λ x. (x < length g) × (mark_of (slice_set marks i Open) x ≡ Open)) (sym (new_place t e))
          (l, now Open i refl))
          (in_longer t h);
      linked = λ t h. ⊎_elim
          (λ (a : suc t < length path). subst (λ x. Points g x (slice_index longer (suc t))) (sym (old_place t (omega (arith, a))))
          (subst (Points g (slice_index path t)) (sym (old_place (suc t) a)) (s.linked t a)))
          (λ (e : suc t ≡ length path). subst (λ x. Points g x (slice_index longer (suc t))) (sym (old_place t (omega (arith, e))))
          (subst (Points g (slice_index path t)) (sym (new_place (suc t) e)) (read t (omega (arith, e)))))
          (in_longer (suc t) h);
      once = λ a t b h. ⊎_elim
          (λ (k : t < length path). λ same. s.once a t b k (sym (old_place a (omega (arith, b, k))) ∙ same ∙ old_place t k))
          (λ (e : t ≡ length path). λ same.
          let k : a < length path = omega (arith, b, e) in
          let is : slice_index path a ≡ i = sym (old_place a k) ∙ same ∙ new_place t e in
          let f : Fresh ≡ Open = sym fresh ∙ ap (mark_of marks) (sym is) ∙ (s.on_path a k).1 in absurd cc)
          (in_longer t h);
      few = s.few;
      looked = λ a j h k. kept Fresh Open Done _ fresh (λ e. absurd cc) (s.looked a j h k);
      follows = s.follows;
    }

  module _ (pre : List ℕ) (is_path : path ≡ pre ++ i ∷ []) (none : slice_index left i ≡ 0) where
    before : (t : ℕ) → t < length pre → slice_index path t ≡ slice_index pre t
    before t h = ap (λ (z : List ℕ). slice_index z t) is_path ∙ get_or_append_left pre (i ∷ []) 0 t h

    at_end : slice_index path (length pre) ≡ i
    at_end = ap (λ (z : List ℕ). slice_index z (length pre)) is_path ∙ get_or-append_seam pre i [] 0

    long : length path ≡ length pre + 1
    long = ap length is_path ∙ length-append pre (i ∷ [])

    pub is_open : mark_of marks i ≡ Open
    is_open = subst (λ z. mark_of marks z ≡ Open) at_end (s.on_path (length pre) (omega (arith, long))).1

    below : (t : ℕ) → t < length pre → t < length path
    below t h = omega (arith, h, long)

    apart : (t : ℕ) → t < length pre → slice_index pre t ≢ i
    apart t h e = s.once t (length pre) h (omega (arith, long)) (before t h ∙ e ∙ sym at_end)

    pub place_sound : IsSound g (slice_set marks i Done) left pre (order ++ i ∷ [])
    place_sound = record {
      marks_long = length-set marks i Done ∙ s.marks_long;
      left_long = s.left_long;
      done = λ j h. ⊎_elim
          (λ (e : j ≡ i). Contains-append_right order (i ∷ []) j (subst (λ z. Contains (z ∷ []) j) e (head_in j [])))
          (λ (n : j ≢ i). Contains-append_left order (i ∷ []) j (s.done j (sym (stays Done j n) ∙ h)))
          (same_or_not j i);
      placed = λ j c. ⊎_elim
          (λ (h : Contains order j). kept Open Done Done j is_open (λ e. absurd cc) (s.placed j h))
          (λ (h : Contains (i ∷ []) j). now Done j (sym (single i j h)))
          (Contains-append_cases order (i ∷ []) j c);
      opened = λ j h. ⊎_elim
          (λ (e : j ≡ i). let f = sym (now Done j e) ∙ h in absurd cc)
          (λ (n : j ≢ i). ⊎_elim
          (λ (a : Contains pre j). a)
          (λ (b : Contains (i ∷ []) j). absurd (n (sym (single i j b))))
          (Contains-append_cases pre (i ∷ []) j (subst (λ (z : List ℕ). Contains z j) is_path (s.opened j (sym (stays Done j n) ∙ h)))))
          (same_or_not j i);
      on_path = λ t h.
          let p = subst (λ x. (x < length g) × (mark_of marks x ≡ Open)) (before t h) (s.on_path t (below t h)) in
          (p.0, stays Done (slice_index pre t) (apart t h) ∙ p.1);
      linked = λ t h.
          subst (λ x. Points g x (slice_index pre (suc t))) (before t (omega (arith, h)))
          (subst (Points g (slice_index path t)) (before (suc t) h) (s.linked t (below (suc t) h)));
      once = λ a t b h same. s.once a t b (below t h) (before a (omega (arith, b, h)) ∙ same ∙ sym (before t h));
      few = s.few;
      looked = λ a j h k. kept Open Done Done _ is_open (λ e. absurd cc) (s.looked a j h k);
      follows = follows_push (length g) (Points g) [] order i s.follows l
          (λ c. let f : Open ≡ Done = sym is_open ∙ s.placed i c in absurd cc)
          (λ j r. s.done j (subst (λ z. mark_of marks z ≡ Done) (get_or_default (list_at g i) r.0 0 j r.1 ∙ r.2)
          (s.looked i r.0 (omega (arith, none)) r.1)));
    }

pub top_in : (g : Graph) (marks : List Mark) (left path order : List ℕ) → IsSound g marks left path order → 0 < length path
    → (i : ℕ) → slice_index path (length path - 1) ≡ i → i < length g
top_in g marks left path order s some i e = subst (λ x. x < length g) e (s.on_path (length path - 1) (omega (arith, some))).0

pub next_read : (g : Graph) (marks : List Mark) (left path order : List ℕ) → IsSound g marks left path order → (i : ℕ)
    → 0 < slice_index left i
    → Points g i (slice_index (list_at g i) (slice_index left i - 1))
next_read g marks left path order s i some =
    let few : slice_index left i ≤ length (list_at g i) = s.few i in
    let l : slice_index left i - 1 < length (list_at g i) = omega (arith, some, few) in
    (slice_index left i - 1, l, get_or_default (list_at g i) (slice_index left i - 1) _ 0 l)

pub next_inside : (g : Graph) (marks : List Mark) (left path order : List ℕ) → IsSound g marks left path order → IsGraph g → (i : ℕ)
    → 0 < slice_index left i
    → slice_index (list_at g i) (slice_index left i - 1) < length g
next_inside g marks left path order s graph i some = graph i _ (next_read g marks left path order s i some)
