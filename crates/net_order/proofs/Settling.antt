-- Drivers run once each in an order settle, and nothing else is settled.
use Rattle.std.proofs.Common.{◌≡◌, ℕ, zero, suc, ◌+◌, ◌<◌, ◌≤◌, ◌||◌, not, nat_lt, Bool, true, false, List, [], ◌∷◌, ◌++◌}
use Rattle.std.proofs.Common.{◌⊎◌, cond, length, get_or, ⊎_elim, refl, ap, sym, subst, ◌∙◌, arith}
use Rattle.std.specs.List.{list_any, count_by, Contains}
use Rattle.std.proofs.lemmas.Bool.{ltb-true, lt-ltb, not-true, or_cases, or_right, false_from_ne_true, or_parts, cases_Bool, or_left}
use Rattle.std.proofs.lemmas.List.Folds.{Any-from_list_any, list_any_at, list_any-append}
use Rattle.std.proofs.lemmas.List.Sums.{sum_by-cons}
use Rattle.vidi_bits.proofs.Bools.{not_both, or_none}
use Rattle.vidi_bits.proofs.Lists.{head_in, tail_in, cases_in, none_in}
use Rattle.net_design.specs.declared.act.Act.{Act}
use Rattle.net_design.specs.declared.design.Driver.{Driver}
use Rattle.net_design.specs.declared.design.Design.{Design}
use Rattle.net_design.specs.declared.values.Values.{Values}
use Rattle.net_design.specs.Updates.{run}
use Rattle.net_design.specs.Bits.{BitSet, named}
use Rattle.net_design.specs.Settled.{net_width, held, FitNets}
use Rattle.net_design.specs.Lawful.{IsLawful, IsDriver, is_input}
use Rattle.net_order.specs.Order.{Follows, Reads, reads_of, writes_of}
use Rattle.net_order.specs.Run.{acts_of, run_all}
use Rattle.net_order.proofs.WriteRange.{writes_are_bits}
use Rattle.net_order.proofs.SameRun.{Agree, Within, joint, bit, run_same}
use Rattle.net_order.proofs.Kept.{fit_narrow, frame, run_fits, run_words}

-- ---- how many drivers write a bit
abbrev names_bit : ℕ → ℕ → Driver → Bool
names_bit m k x = named x.code.writes m k

count_cons : (m k : ℕ) (x : Driver) (xs : List Driver) (b : Bool) → named x.code.writes m k ≡ b
    → count_by (names_bit m k) (x ∷ xs) ≡ cond b 1 0 + count_by (names_bit m k) xs
count_cons m k x xs b e =
    sum_by-cons (λ (y : Driver). cond (named y.code.writes m k) 1 0) x xs ∙ ap (λ t. cond t 1 0 + count_by (names_bit m k) xs) e

count_some : (xs : List Driver) (m k : ℕ) → 1 ≤ count_by (names_bit m k) xs → (j : ℕ) × (writes_of xs j m k ≡ true)
count_some [] m k l = absurd (omega arith)
count_some (x ∷ xs) m k l = ⊎_elim
    (λ (t : named x.code.writes m k ≡ true). (zero, t))
    (λ (f : named x.code.writes m k ≡ false).
    let c = count_cons m k x xs false f in
    let r = count_some xs m k (omega arith) in (suc r.0, r.1))
    (cases_Bool (named x.code.writes m k))

count_none : (xs : List Driver) (m k j : ℕ) → count_by (names_bit m k) xs ≡ 0 → writes_of xs j m k ≡ true → ⊥
count_none [] m k j z h = absurd cc
count_none (x ∷ xs) m k zero z h = let c = count_cons m k x xs true h in absurd (omega arith)
count_none (x ∷ xs) m k (suc j) z h = ⊎_elim
    (λ (t : named x.code.writes m k ≡ true). let c = count_cons m k x xs true t in absurd (omega arith))
    (λ (f : named x.code.writes m k ≡ false). let c = count_cons m k x xs false f in count_none xs m k j (omega arith) h)
    (cases_Bool (named x.code.writes m k))

count_one : (xs : List Driver) (m k i j : ℕ) → count_by (names_bit m k) xs ≡ 1 → writes_of xs i m k ≡ true
    → writes_of xs j m k ≡ true → i ≡ j
count_one [] m k i j z h g = absurd cc
count_one (x ∷ xs) m k zero zero z h g = refl
count_one (x ∷ xs) m k zero (suc j) z h g =
    let c = count_cons m k x xs true h in absurd (count_none xs m k j (omega arith) g)
count_one (x ∷ xs) m k (suc i) zero z h g =
    let c = count_cons m k x xs true g in absurd (count_none xs m k i (omega arith) h)
count_one (x ∷ xs) m k (suc i) (suc j) z h g = ⊎_elim
    (λ (t : named x.code.writes m k ≡ true). let c = count_cons m k x xs true t in absurd (count_none xs m k i (omega arith) h))
    (λ (f : named x.code.writes m k ≡ false).
    let c = count_cons m k x xs false f in ap suc (count_one xs m k i j (omega arith) h g))
    (cases_Bool (named x.code.writes m k))

-- ---- drivers by number
pub record At (d : Design) (xs : List Driver) (i : ℕ) : Type 0 where
  pub driver : Driver
  pub lawful : IsDriver d driver
  pub acts : acts_of xs i ≡ driver.code.acts
  pub reads : (m k : ℕ) → reads_of xs i m k ≡ named driver.code.reads m k
  pub writes : (m k : ℕ) → writes_of xs i m k ≡ named driver.code.writes m k

at : (d : Design) (xs : List Driver) → ((i : ℕ) (x : Driver) → i < length xs → IsDriver d (get_or xs i x)) → (i : ℕ) → i < length xs
    → At d xs i
at d [] all i l = absurd (omega arith)
at d (x ∷ xs) all zero l = record {
  driver = x;
  lawful = all zero x (omega arith);
  acts = refl;
  reads = λ m k. refl;
  writes = λ m k. refl;
}
at d (x ∷ xs) all (suc i) l =
    let r = at d xs (λ j y h. all (suc j) y (omega arith)) i (omega arith) in
    record { driver = r.driver; lawful = r.lawful; acts = r.acts; reads = r.reads; writes = r.writes }

twice : (a : Bool) → not a ≡ false → a ≡ true
twice true h = refl
twice false h = absurd cc

not_lt : (k w : ℕ) → not (nat_lt k w) ≡ true → k < w → ⊥
not_lt k w h l = not_both (nat_lt k w) (lt-ltb k w l) (not-true (nat_lt k w) h)

module _ (d : Design) (law : IsLawful d) where
  at_driver : (i : ℕ) → i < length d.drivers → At d d.drivers i
  at_driver i l = at d d.drivers (λ j x h. law.drivers j x h) i l

  abbrev after : ℕ → Values → Values
  after i v = run (acts_of d.drivers i) v

  abbrev reads_at : ℕ → BitSet
  reads_at i m k = reads_of d.drivers i m k

  abbrev writes_at : ℕ → BitSet
  writes_at i m k = writes_of d.drivers i m k

  -- ---- one driver
  pub driver_fits : (i : ℕ) → i < length d.drivers → (v : Values) → FitNets d v.nets → FitNets d (after i v).nets
  driver_fits i l v fit =
      let a = at_driver i l in
      subst (λ (acts : List Act). FitNets d (run acts v).nets) (sym a.acts)
      (run_fits d law a.driver.code.acts a.lawful.code.acts v fit)

  pub driver_words : (i : ℕ) → i < length d.drivers → (v : Values) → (after i v).words ≡ v.words
  driver_words i l v =
      let a = at_driver i l in
      ap (λ (acts : List Act). (run acts v).words) a.acts ∙ run_words a.driver.code.acts v a.lawful.no_words

  driver_frame : (i : ℕ) → i < length d.drivers → (v : Values) → FitNets d v.nets → (m k : ℕ) → writes_at i m k ≡ false
      → bit (after i v) m k ≡ bit v m k
  driver_frame i l v fit m k h =
      let a = at_driver i l in
      ap (λ (acts : List Act). bit (run acts v) m k) a.acts
      ∙ frame d law a.driver.code.acts a.lawful.code.acts v fit m k (sym (a.lawful.code.bits.writes m k) ∙ sym (a.writes m k) ∙ h)

  driver_depends : (i : ℕ) → i < length d.drivers → (v u : Values) → FitNets d v.nets → FitNets d u.nets → v.words ≡ u.words
      → Agree (reads_at i) v u → Agree (writes_at i) (after i v) (after i u)
  driver_depends i l v u fv fu words agree m k t =
      let a = at_driver i l in
      let acts : List Act = a.driver.code.acts in
      let same = run_same acts (reads_at i) v u (λ x y r. a.reads x y ∙ a.lawful.code.bits.reads x y ∙ r) (record {
        bits = agree;
        words = words;
        long = fv.long ∙ sym fu.long;
        narrow_v = fit_narrow d law v.nets fv;
        narrow_u = fit_narrow d law u.nets fu;
      }) in
      ap (λ (xs : List Act). bit (run xs v) m k) a.acts
      ∙ same.bits m k (or_right (reads_at i m k) _ (a.lawful.whole m k (sym (a.writes m k) ∙ t)))
      ∙ sym (ap (λ (xs : List Act). bit (run xs u) m k) a.acts)

  -- ---- drivers in an order: each reads what is known, and writes what isn't
  abbrev pub InOrder : BitSet → List ℕ → Type 0
  InOrder known [] = Unit {0}
  InOrder known (i ∷ rest) = (i < length d.drivers) × Within (reads_at i) known × ((m k : ℕ) → known m k ≡ true
      → writes_at i m k ≡ false) × InOrder
      (joint known (writes_at i)) rest

  pub all_fit : (known : BitSet) (order : List ℕ) → InOrder known order → (v : Values) → FitNets d v.nets
      → FitNets d (run_all d.drivers order v).nets
  all_fit known [] o v fit = fit
  all_fit known (i ∷ rest) o v fit = all_fit (joint known (writes_at i)) rest o.3 (after i v) (driver_fits i o.0 v fit)

  pub all_words : (known : BitSet) (order : List ℕ) → InOrder known order → (v : Values) → (run_all d.drivers order v).words ≡ v.words
  all_words known [] o v = refl
  all_words known (i ∷ rest) o v = all_words (joint known (writes_at i)) rest o.3 (after i v) ∙ driver_words i o.0 v

  pub known_stay : (known : BitSet) (order : List ℕ) → InOrder known order → (v : Values) → FitNets d v.nets
      → Agree known (run_all d.drivers order v) v
  known_stay known [] o v fit m k t = refl
  known_stay known (i ∷ rest) o v fit m k t =
      known_stay (joint known (writes_at i)) rest o.3 (after i v) (driver_fits i o.0 v fit) m k (or_left (known m k) (writes_at i m k) t)
      ∙ driver_frame i o.0 v fit m k (o.2 m k t)

  -- the bits of a driver are fixed once all ran
  pub settles : (known : BitSet) (order : List ℕ) → InOrder known order → (v : Values) → FitNets d v.nets → (i : ℕ) → Contains order i
      → (m k : ℕ) → bit (after i (run_all d.drivers order v)) m k ≡ bit (run_all d.drivers order v) m k
  settles known [] o v fit i c m k = absurd (none_in i c)
  settles known (j ∷ rest) o v fit i c m k =
      let w : Values = run_all d.drivers rest (after j v) in
      let more : BitSet = joint known (writes_at j) in
      let first = driver_fits j o.0 v fit in
      let last = all_fit more rest o.3 (after j v) first in
      ⊎_elim
      (λ (e : j ≡ i). subst (λ x. bit (after x w) m k ≡ bit w m k) e (⊎_elim
      (λ (t : writes_at j m k ≡ true).
      driver_depends j o.0 w v last fit (all_words more rest o.3 (after j v) ∙ driver_words j o.0 v)
      (λ x y r. known_stay known (j ∷ rest) o v fit x y (o.1 x y r)) m k t
      ∙ sym (known_stay more rest o.3 (after j v) first m k (or_right (known m k) (writes_at j m k) t)))
      (λ (f : writes_at j m k ≡ false). driver_frame j o.0 w last m k f)
      (cases_Bool (writes_at j m k))))
      (λ (h : Contains rest i). settles more rest o.3 (after j v) first i h m k)
      (cases_in j rest i c)

  -- two maps that no driver changes and that agree on what is known agree on what the drivers write
  pub one_map : (known : BitSet) (order : List ℕ) → InOrder known order → (v u : Values) → FitNets d v.nets → FitNets d u.nets
      → v.words ≡ u.words → ((i : ℕ) → Contains order i → after i v ≡ v) → ((i : ℕ) → Contains order i → after i u ≡ u) → Agree known v u
      → (i : ℕ) → Contains order i → Agree (writes_at i) v u
  one_map known [] o v u fv fu words sv su agree i c = absurd (none_in i c)
  one_map known (j ∷ rest) o v u fv fu words sv su agree i c =
      let here : Agree (writes_at j) v u = λ m k t.
      ap (λ (x : Values). bit x m k) (sym (sv j (head_in j rest)))
      ∙ driver_depends j o.0 v u fv fu words (λ x y r. agree x y (o.1 x y r)) m k t
      ∙ ap (λ (x : Values). bit x m k) (su j (head_in j rest)) in
      ⊎_elim
      (λ (e : j ≡ i). subst (λ x. Agree (writes_at x) v u) e here)
      (λ (h : Contains rest i). one_map (joint known (writes_at j)) rest o.3 v u fv fu words
      (λ x y. sv x (tail_in j rest x y)) (λ x y. su x (tail_in j rest x y))
      (λ m k t. ⊎_elim (λ (a : known m k ≡ true). agree m k a) (λ (b : writes_at j m k ≡ true). here m k b)
      (or_cases (known m k) (writes_at j m k) t)) i h)
      (cases_in j rest i c)

  -- ---- an order of the design's drivers is one in this sense
  -- what no driver writes: what is no bit of a net, and what inputs and state hold
  abbrev pub given : BitSet
  given m k = not (nat_lt k (net_width d m)) || (is_input d m || held d m k)

  given_from : (m k : ℕ) → given m k ≡ true → (i : ℕ) → writes_at i m k ≡ true → ⊥
  given_from m k g i w =
      let l : k < net_width d m = writes_are_bits d law i m k w in
      ⊎_elim
      (λ (a : not (nat_lt k (net_width d m)) ≡ true). not_lt k (net_width d m) a l)
      (λ (b : (is_input d m || held d m k) ≡ true). count_none d.drivers m k i (law.others m k (or_cases (is_input d m) (held d m k) b)) w)
      (or_cases (not (nat_lt k (net_width d m))) (is_input d m || held d m k) g)

  not_given : (m k : ℕ) → given m k ≡ false → count_by (names_bit m k) d.drivers ≡ 1
  not_given m k g =
      let p = or_parts (not (nat_lt k (net_width d m))) (is_input d m || held d m k) g in
      let q = or_parts (is_input d m) (held d m k) p.1 in
      law.driven m k (ltb-true _ _ (twice (nat_lt k (net_width d m)) p.0)) q.0 q.1

  pub some_writer : (m k : ℕ) → given m k ≡ false → (j : ℕ) × (writes_at j m k ≡ true)
  some_writer m k g = let c = not_given m k g in count_some d.drivers m k (omega arith)

  one_writer : (m k i j : ℕ) → writes_at i m k ≡ true → writes_at j m k ≡ true → i ≡ j
  one_writer m k i j wi wj = ⊎_elim
      (λ (g : given m k ≡ true). absurd (given_from m k g i wi))
      (λ (n : given m k ≡ false). count_one d.drivers m k i j (not_given m k n) wi wj)
      (cases_Bool (given m k))

  abbrev written_by : List ℕ → BitSet
  written_by before m k = list_any (λ (j : ℕ). writes_of d.drivers j m k) before

  known_next : (known w b i : Bool) → known ≡ (w || b) → (known || i) ≡ (w || (b || (i || false)))
  known_next known true b i h = ap (λ t. t || i) h
  known_next known false true i h = ap (λ t. t || i) h
  known_next known false false i h = ap (λ t. t || i) h ∙ or_none i

  pub in_order : (known : BitSet) (before order : List ℕ) → ((m k : ℕ) → known m k ≡ (given m k || written_by before m k))
      → Follows (length d.drivers) (Reads d) before order → InOrder known order
  in_order known before [] is f = tt
  in_order known before (i ∷ rest) is f = (
    f.0,
    (λ m k t. is m k ∙ ⊎_elim
        (λ (g : given m k ≡ true). or_left (given m k) (written_by before m k) g)
        (λ (n : given m k ≡ false).
        let w = some_writer m k n in
        let c = f.2 w.0 (m, k, t, w.1) in
        or_right (given m k) (written_by before m k)
        (list_any_at (λ (j : ℕ). writes_of d.drivers j m k) before c.0 w.0 c.1
        (subst (λ j. writes_of d.drivers j m k ≡ true) (sym c.2) w.1)))
        (cases_Bool (given m k))),
    (λ m k t. false_from_ne_true _ (λ w. ⊎_elim
        (λ (g : given m k ≡ true). given_from m k g i w)
        (λ (b : written_by before m k ≡ true).
        let any = Any-from_list_any (λ (j : ℕ). writes_of d.drivers j m k) before b in
        let same : any.1 ≡ i = one_writer m k any.1 i any.4 w in
        f.1 (any.0, any.2, subst (λ x. get_or before any.0 x ≡ x) same any.3))
        (or_cases (given m k) (written_by before m k) (sym (is m k) ∙ t)))),
    in_order (joint known (writes_at i)) (before ++ i ∷ []) rest
        (λ m k. known_next (known m k) (given m k) (written_by before m k) (writes_at i m k) (is m k)
        ∙ ap (λ b. given m k || b) (sym (list_any-append (λ (j : ℕ). writes_of d.drivers j m k) before (i ∷ []))))
        f.3,
  )
