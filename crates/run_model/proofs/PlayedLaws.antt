-- Rows that a design shows under a rule: exactly one list of n rows.
use Rattle.std.proofs.Common.{Bool, ◌≡◌, ℕ, zero, suc, ◌<◌, ◌≤◌, ◌^◌, ◌&&◌, true, false, cond, ltb, List, [], ◌∷◌, ◌++◌, Option}
use Rattle.std.proofs.Common.{Some, None, All, length, take, map, get_or, slice_get, slice_index, ⊎_elim, refl, ap, sym, subst, ◌∙◌, arith}
use Rattle.std.specs.List.{range_with_len}
use mathlib.Core.Logic.{∥∥₁_elim, ∥∥₁_map, ∥∥₁_prop}
use Rattle.std.proofs.lemmas.Bool.{lt-ltb, le-ltb, cond-true, cond-false}
use Rattle.std.proofs.lemmas.List.{take_all, take_at, take-append-le, length_push, get_or-map, take-take}
use Rattle.std.proofs.lemmas.Option.{get_or_from_slice_get, slice_get_within}
use Rattle.std.proofs.lemmas.Nat.{pow_pos}
use Rattle.chan_map.specs.vidi_bits.Number.{has}
use Rattle.chan_map.proofs.vidi_bits_lemmas.BitLemmas.{has-above}
use Rattle.chan_map.specs.trace_model.declared.channel.Channel.{Channel}
use Rattle.chan_map.specs.trace_model.declared.row.Offers.{Offers}
use Rattle.chan_map.specs.trace_model.declared.row.Row.{Row}
use Rattle.chan_map.specs.trace_model.Row.{content_at, sink_valid, row_before, IsOver, AreOffers, IsMarked, AreRows}
use Rattle.chan_map.proofs.trace_model_lemmas.CountingLemmas.{slice_get-push, slice_get-append_left, slice_get-take, take-suc_get}
use Rattle.net_design.specs.declared.design.Net.{Net}
use Rattle.net_design.specs.declared.design.Direction.TheVariants.{Output}
use Rattle.net_design.specs.declared.design.Design.{Design}
use Rattle.net_design.specs.declared.values.Values.{Values}
use Rattle.net_design.specs.Settled.{FitNets, IsSettled, initial, next}
use Rattle.net_design.specs.Lawful.{IsLawful, IsState}
use Rattle.net_design.specs.Pins.{FitPins, HasOneMap, input_limits, outputs}
use Rattle.net_design.proofs.StateLaws.{initial_state, next_state}
use Rattle.chan_map.specs.declared.pins.Map.{Map}
use Rattle.chan_map.specs.declared.pins.Reset.{Reset}
use Rattle.run_model.specs.Building.{row_of, number_for, FitOutputs, AreSmall, PortsAreNets}
use Rattle.run_model.specs.MapOf.{IsMapOf}
use Rattle.run_model.specs.Pins.{ArePins, entered, silent}
use Rattle.run_model.specs.Step.{IsStep, IsNext, IsAfter, IsAfterReset, IsFirst, Shows}
use Rattle.run_model.specs.Offers.{Carries}
use Rattle.run_model.specs.Played.{IsDriven, IsPlayed}
use Rattle.run_model.proofs.PinLemmas.{one-list, are-pins, pin-at, ways}
use Rattle.run_model.proofs.RowParts.{Agree, entered-same, one-row, carried, channel-at, row-over, row-marked}
use Rattle.run_model.proofs.RowParts.{row-shows, row-carries, small-row}

-- ---- states
one-next : (d : Design) → HasOneMap d → (pins : List ℕ) (s a b : Values) → IsState d s → FitPins d pins → IsNext d pins s a
    → IsNext d pins s b → a ≡ b
one-next d one pins s a b st fit x y = x.next ∙ ap (λ v. next d v s) (one.only s pins x.v y.v st fit x.settled y.settled) ∙ sym y.next

state-next : (d : Design) → IsLawful d → (pins : List ℕ) (s a : Values) → IsState d s → IsNext d pins s a → IsState d a
state-next d law pins s a st x = subst (IsState d) (sym x.next) (next_state d law x.v s st)

state-after : (d : Design) → IsLawful d → (pins : List ℕ) (n : ℕ) (s a : Values) → IsState d s → IsAfter d pins n s a → IsState d a
state-after d law pins zero s a st h = subst (IsState d) (sym h) st
state-after d law pins (suc n) s a st h = state-next d law pins h.0 a (state-after d law pins n s h.0 st h.1) h.2

one-after : (d : Design) → IsLawful d → HasOneMap d → (pins : List ℕ) → FitPins d pins → (n : ℕ) (s a b : Values) → IsState d s
    → IsAfter d pins n s a → IsAfter d pins n s b → a ≡ b
one-after d law one pins fit zero s a b st x y = x ∙ sym y
one-after d law one pins fit (suc n) s a b st x y =
    let same : x.0 ≡ y.0 = one-after d law one pins fit n s x.0 y.0 st x.1 y.1 in
    one-next d one pins x.0 a b (state-after d law pins n s x.0 st x.1) fit x.2 (subst (λ u. IsNext d pins u b) (sym same) y.2)

first-state : (d : Design) (m : Map) → IsLawful d → (o : Option Reset) (s : Values) → IsAfterReset d m o s → IsState d s
first-state d m law None s h = subst (IsState d) (sym h) (initial_state d law)
first-state d m law (Some r) s h = state-after d law h.0 r.cycles (initial d) s (initial_state d law) h.2

one-first : (d : Design) (m : Map) → IsLawful d → HasOneMap d → IsMapOf d m → (o : Option Reset) (a b : Values) → IsAfterReset d m o a
    → IsAfterReset d m o b → a ≡ b
one-first d m law one is None a b x y = x ∙ sym y
one-first d m law one is (Some r) a b x y =
    let same : x.0 ≡ y.0 = one-list d m is true silent silent refl x.0 y.0 x.1 y.1 in
    one-after d law one x.0 x.1.fit r.cycles (initial d) a b (initial_state d law) x.2
    (subst (λ p. IsAfter d p r.cycles (initial d) b) (sym same) y.2)

pub state-step : (d : Design) (m : Map) → IsLawful d → (s : Values) (row : Row) (a : Values) → IsState d s → IsStep d m s row a
    → IsState d a
state-step d m law s row a st x = subst (IsState d) (sym x.next) (next_state d law x.v s st)

-- rows of one state that agree are one, and so are the states after them
one-step : (d : Design) (m : Map) → HasOneMap d → IsMapOf d m → (s : Values) → IsState d s → (before : Option Row) (a b : Row)
    (na nb : Values) → IsOver m.channels a → IsOver m.channels b → IsMarked before a → IsMarked before b → a.fresh ≡ b.fresh
    → Agree m.channels a b → IsStep d m s a na → IsStep d m s b nb → (a ≡ b) × (na ≡ nb)
one-step d m one is s st before a b na nb oa ob ma mb fresh agree x y =
    let pins : x.pins ≡ y.pins = one-list d m is false a b (entered-same m false a b agree) x.pins y.pins x.entered y.entered in
    let map-is : x.v ≡ y.v = one.only s x.pins x.v y.v st x.entered.fit x.settled (subst (λ p. IsSettled d s p y.v)
    (sym pins) y.settled) in (
      one-row d m is (outputs d x.v) before a b oa ob ma mb fresh agree x.shown (subst (λ v. Shows (outputs d v) m b) (sym map-is) y.shown),
      x.next ∙ ap (λ v. next d v s) map-is ∙ sym y.next,
    )

-- ---- fronts of rows
pub row-before_take : (rows : List Row) (k t : ℕ) → t ≤ k → row_before (take k rows) t ≡ row_before rows t
row-before_take rows k zero l = refl
row-before_take rows k (suc t) l = slice_get-take k rows t (omega arith)

-- a row of a front is one of the rows
pub front-at : (rows : List Row) (k t : ℕ) (row : Row) → slice_get (take k rows) t ≡ Some row → (t < k) × (slice_get rows t ≡ Some row)
front-at rows k t row at = let l = within rows k t row at in (l, sym (slice_get-take k rows t l) ∙ at)
  where
    within : (rows : List Row) (k t : ℕ) (row : Row) → slice_get (take k rows) t ≡ Some row → t < k
    within [] zero t row at = absurd (cc)
    within [] (suc k) t row at = absurd (cc)
    within (x ∷ xs) zero t row at = absurd (cc)
    within (x ∷ xs) (suc k) zero row at = omega arith
    within (x ∷ xs) (suc k) (suc t) row at = let l = within xs k t row at in omega arith

pub rows-front : (channels : List Channel) (rows : List Row) (k : ℕ) → AreRows channels rows → AreRows channels (take k rows)
rows-front channels rows k are t row at =
    let f = front-at rows k t row at in
    let l = f.0 in
    ((are t row f.1).0, subst (λ o. IsMarked o row) (sym (row-before_take rows k t (omega (arith, l)))) (are t row f.1).1)

-- ---- at most one list
-- the rule fixes the environment's part of a row, its gates and whether a reset came
abbrev pub Determines : List Channel → (List Row → Row → Type 0) → Type 0
Determines channels rule = (before : List Row) (a b : Row) → AreRows channels before → IsOver channels a → IsOver channels b
    → rule before a → rule before b → (a.fresh ≡ b.fresh) × Agree channels a b

record Same (d : Design) (m : Map) (a b : List Row) (da : IsDriven d m a) (db : IsDriven d m b) (k : ℕ) : Type 0 where
  rows : take k a ≡ take k b
  state : da.state k ≡ db.state k
  lawful : IsState d (da.state k)

before-same : (a b : List Row) (k : ℕ) → take k a ≡ take k b → row_before a k ≡ row_before b k
before-same a b zero e = refl
before-same a b (suc k) e = sym (slice_get-take (suc k) a k (omega arith)) ∙ ap (λ xs. slice_get xs k) e
    ∙ slice_get-take (suc k) b k (omega arith)

module _ (d : Design) (m : Map) (law : IsLawful d) (one : HasOneMap d) (is : IsMapOf d m) (rule : List Row → Row → Type 0)
    (determines : Determines m.channels rule) (a b : List Row) (pa : IsPlayed d m rule a) (pb : IsPlayed d m rule b) where
  same-suc : (k : ℕ) (x y : Row) → slice_get a k ≡ Some x → slice_get b k ≡ Some y → Same d m a b pa.driven pb.driven k
      → Same d m a b pa.driven pb.driven (suc k)
  same-suc k x y ax by s =
      let agree : (x.fresh ≡ y.fresh) × Agree m.channels x y = determines (take k a) x y (rows-front m.channels a k pa.marked) (pa.marked k x ax).0
      (pb.marked k y by).0
      (pa.ruled k x ax) (subst (λ rs. rule rs y) (sym s.rows) (pb.ruled k y by)) in
      let mark : IsMarked (row_before a k) y = subst (λ o. IsMarked o y) (sym (before-same a b k s.rows)) (pb.marked k y by).1 in
      let r = one-step d m one is (pa.driven.state k) s.lawful (row_before a k) x y (pa.driven.state (suc k)) (pb.driven.state (suc k))
      (pa.marked k x ax).0 (pb.marked k y by).0 (pa.marked k x ax).1 mark agree.0 agree.1 (pa.driven.steps k x ax)
      (subst (λ u. IsStep d m u y (pb.driven.state (suc k))) (sym s.state) (pb.driven.steps k y by)) in
      record {
        rows = take-suc_get a k x ax ∙ ap (λ rs. rs ++ x ∷ []) s.rows ∙ ap (λ z. take k b ++ z ∷ []) r.0 ∙ sym (take-suc_get b k y by);
        state = r.1;
        lawful = state-step d m law (pa.driven.state k) x (pa.driven.state (suc k)) s.lawful (pa.driven.steps k x ax);
      }

  same-upto : (k : ℕ) → k ≤ length a → k ≤ length b → Same d m a b pa.driven pb.driven k
  same-upto zero la lb = record {
    rows = refl;
    state = one-first d m law one is m.reset (pa.driven.state 0) (pb.driven.state 0) pa.driven.first pb.driven.first;
    lawful = first-state d m law m.reset (pa.driven.state 0) pa.driven.first;
  }
  same-upto (suc k) la lb =
      let x = channel-at a k (omega arith) in
      let y = channel-at b k (omega arith) in
      same-suc k x.0 y.0 x.1 y.1 (same-upto k (omega arith) (omega arith))

  pub one-list_of_rows : length a ≡ length b → a ≡ b
  one-list_of_rows e =
      let s = same-upto (length a) (omega arith) (omega (arith, e)) in
      sym (take_all (length a) a (omega arith)) ∙ s.rows ∙ take_all (length a) b (omega (arith, e))

-- ---- a row more
pub rows-push : (channels : List Channel) (rows : List Row) (row : Row) → AreRows channels rows → IsOver channels row
    → IsMarked (row_before rows (length rows)) row → AreRows channels (rows ++ row ∷ [])
rows-push channels rows row are over mark t x at = ⊎_elim
    (λ (h : (t < length rows) × (slice_get rows t ≡ Some x)).
    ((are t x h.1).0, subst (λ o. IsMarked o x) (sym (before-append rows row t (omega (arith, h.0)))) (are t x h.1).1))
    (λ (h : (t ≡ length rows) × (row ≡ x)). (
      subst (IsOver channels) h.1 over,
      subst (λ (y : Row). IsMarked (row_before (rows ++ row ∷ []) t) y) h.1
          (subst (λ o. IsMarked o row) (ap (row_before rows) (sym h.0) ∙ sym (before-append rows row t (omega (arith, h.0)))) mark),
    ))
    (slice_get-push rows row x t at)
  where
    before-append : (rows : List Row) (row : Row) (t : ℕ) → t ≤ length rows → row_before (rows ++ row ∷ []) t ≡ row_before rows t
    before-append rows row zero l = refl
    before-append rows row (suc t) l = slice_get-append_left rows (row ∷ []) t (omega arith)

pub record Grown (d : Design) (m : Map) (rule : List Row → Row → Type 0) (rows : List Row) (after : Values) : Type 0 where
  pub played : IsPlayed d m rule rows
  pub state : played.driven.state (length rows) ≡ after

pub played-push : (d : Design) (m : Map) (rule : List Row → Row → Type 0) (rows : List Row) (row : Row) (after : Values)
    → (p : IsPlayed d m rule rows) → rule rows row → IsOver m.channels row → IsMarked (row_before rows (length rows)) row
    → IsStep d m (p.driven.state (length rows)) row after → Grown d m rule (rows ++ row ∷ []) after
played-push d m rule rows row after p ruled over mark step =
    let n = length rows in
    let st : ℕ → Values = λ t. cond (ltb n t) after (p.driven.state t) in
    let old : (t : ℕ) → t ≤ n → st t ≡ p.driven.state t = λ t l. cond-false (ltb n t) after (p.driven.state t) (le-ltb n t l) in
    let new : (t : ℕ) → n < t → st t ≡ after = λ t l. cond-true (ltb n t) after (p.driven.state t) (lt-ltb n t l) in
    record {
      played = record {
        marked = rows-push m.channels rows row p.marked over mark;
        driven = record {
          state = st;
          first = subst (IsFirst d m) (sym (old 0 (omega arith))) p.driven.first;
          steps = λ t x at. ⊎_elim
              (λ (h : (t < n) × (slice_get rows t ≡ Some x)).
              subst (λ u. IsStep d m u x (st (suc t))) (sym (old t (omega (arith, h.0))))
              (subst (IsStep d m (p.driven.state t) x) (sym (old (suc t) (omega (arith, h.0)))) (p.driven.steps t x h.1)))
              (λ (h : (t ≡ n) × (row ≡ x)).
              subst (λ u. IsStep d m u x (st (suc t))) (sym (old t (omega (arith, h.0))))
              (subst (IsStep d m (p.driven.state t) x) (sym (new (suc t) (omega (arith, h.0))))
              (subst (λ (y : Row). IsStep d m (p.driven.state t) y after) h.1
              (subst (λ k. IsStep d m (p.driven.state k) row after) (sym h.0) step))))
              (slice_get-push rows row x t at);
        };
        ruled = λ t x at. ⊎_elim
            (λ (h : (t < n) × (slice_get rows t ≡ Some x)).
            subst (λ rs. rule rs x) (sym (take-append-le t rows (row ∷ []) (omega (arith, h.0)))) (p.ruled t x h.1))
            (λ (h : (t ≡ n) × (row ≡ x)).
            subst (λ rs. rule rs x) (sym (ap (λ k. take k (rows ++ row ∷ [])) h.0 ∙ take_at rows (row ∷ []) n refl))
            (subst (λ (y : Row). rule rows y) h.1 ruled))
            (slice_get-push rows row x t at);
      };
      state = let l : n < length (rows ++ row ∷ []) = omega (arith, length_push rows row) in new (length (rows ++ row ∷ [])) l;
    }

pub played-nil : (d : Design) (m : Map) (rule : List Row → Row → Type 0) (s : Values) → IsFirst d m s → Grown d m rule [] s
played-nil d m rule s first = record {
  played = record {
    marked = λ t row at. absurd (cc);
    driven = record { state = λ t. s; first = first; steps = λ t row at. absurd (cc) };
    ruled = λ t row at. absurd (cc);
  };
  state = refl;
}

-- ---- outputs fit
pub ports-are_nets : (d : Design) → IsLawful d → PortsAreNets d
ports-are_nets d law = record {
  few = law.ports;
  widths = λ k p at.
      (let l = slice_get_within d.ports k p at in
      let n = channel-at d.nets k (let small = law.ports in omega (arith, l, small)) in
      get_or-map (λ (x : Net). x.width) d.nets k n.0 0 (slice_get_within d.nets k n.0 n.1)
      ∙ ap (λ (x : Net). x.width) (get_or_from_slice_get d.nets k n.0 n.0 n.1) ∙ (law.port_nets k p n.0 at n.1).1);
}

pub fit-outputs : (d : Design) → PortsAreNets d → (v : Values) → FitNets d v.nets → FitOutputs d (outputs d v)
fit-outputs d are v fit width pin is =
    let long = fit.long in
    let few = are.few in
    let number : get_or (outputs d v) pin.place 0 ≡ get_or v.nets is.port 0 =
    ap (λ k. get_or (outputs d v) k 0) is.place ∙ pin-at Output d.ports v.nets is.port is.p is.at (ways Output is.p is.direction_is)
    (omega (arith, long, few)) in
    let below = fit.each is.port in
    subst (λ n. n < 2 ^ width) (sym number)
    (subst (λ w. get_or v.nets is.port 0 < 2 ^ w) (are.widths is.port is.p is.at ∙ is.width_is) below)

-- ---- at least one list
-- after these rows the rule allows the rows with some offers, gates and mark
pub record Allows (channels : List Channel) (rule : List Row → Row → Type 0) (before : List Row) : Type 0 where
  pub offers : Offers
  pub gates : ℕ
  pub fresh : Bool
  pub are : AreOffers channels offers
  pub below : gates < 2 ^ length channels
  pub allows : (row : Row) → IsOver channels row → Carries channels offers row → row.gates ≡ gates → row.fresh ≡ fresh → rule before row

record Lists (d : Design) (m : Map) (rule : List Row → Row → Type 0) (n : ℕ) : Type 0 where
  rows : List Row
  long : length rows ≡ n
  played : IsPlayed d m rule rows
  lawful : IsState d (played.driven.state (length rows))

after-some : (d : Design) → IsLawful d → HasOneMap d → (pins : List ℕ) → FitPins d pins → (s : Values) → IsState d s → (n : ℕ)
    → ∥ ((a : Values) × IsAfter d pins n s a) ∥₁
after-some d law one pins fit s st zero = ∣ (s, refl) ∣₁
after-some d law one pins fit s st (suc n) = ∥∥₁_elim (after-some d law one pins fit s st n) ∥∥₁_prop
    (λ (a : (a : Values) × IsAfter d pins n s a).
    ∥∥₁_map {B = (a : Values) × IsAfter d pins (suc n) s a} (one.some a.0 pins (state-after d law pins n s a.0 st a.1) fit)
    (λ (v : (v : Values) × IsSettled d a.0 pins v). (next d v.0 a.0, (a.0, a.1, record { v = v.0; settled = v.1; next = refl }))))

pub silent-small : (channels : List Channel) → AreSmall channels silent
silent-small channels c x at i =
    let off : sink_valid silent c ≡ false = ap (λ b. b && has 0 c) (has-above 0 0 c (omega arith) (omega arith)) in
    subst (λ n. n < 2 ^ get_or x.widths i 0)
    (sym (cond-false (sink_valid silent c) (get_or (content_at channels silent.contents c) i 0) 0 off)) (pow_pos (get_or x.widths i 0))

first-some : (d : Design) (m : Map) → IsLawful d → HasOneMap d → IsMapOf d m → (o : Option Reset)
    → ∥ ((s : Values) × IsAfterReset d m o s) ∥₁
first-some d m law one is None = ∣ (initial d, refl) ∣₁
first-some d m law one is (Some r) =
    let pins = map (number_for (entered m true silent)) (range_with_len 0 (length (input_limits d))) in
    let are : ArePins d m true silent pins = are-pins d m is true silent (silent-small m.channels) in
    ∥∥₁_map {B = (s : Values) × IsAfterReset d m (Some r) s} (after-some d law one pins are.fit (initial d) (initial_state d law) r.cycles)
    (λ (a : (a : Values) × IsAfter d pins r.cycles (initial d) a). (a.0, (pins, are, a.1)))

no-outputs : (d : Design) → FitOutputs d []
no-outputs d width pin is = pow_pos width

-- the next row, and the state after it, by its settled map
pub row-step : (d : Design) (m : Map) → PortsAreNets d → IsMapOf d m → (fresh : Bool) (before : Option Row) (offers : Offers) → AreOffers m.channels offers
    → (gates : ℕ) → gates < 2 ^ length m.channels → (s : Values) (pins : List ℕ) (v : Values)
    → ArePins d m false (row_of m fresh before offers gates []) pins → IsSettled d s pins v
    → IsStep d m s (row_of m fresh before offers gates (outputs d v)) (next d v s)
row-step d m are-nets is fresh before offers are gates l s pins v entered-is settled =
    let fits = fit-outputs d are-nets v settled.keeps.fit in
    let first = row_of m fresh before offers gates [] in
    let row = row_of m fresh before offers gates (outputs d v) in
    let agree : Agree m.channels first row = carried m.channels offers first row refl
    (row-carries d m is fresh before offers are gates [] (no-outputs d)) (row-carries d m is fresh before offers are gates (outputs d v) fits) in
    record {
      pins = pins;
      v = v;
      entered = record {
        fit = entered-is.fit;
        numbers = subst (λ es. All (λ e. slice_index pins e.place ≡ e.number) es) (entered-same m false first row agree) entered-is.numbers;
      };
      settled = settled;
      shown = row-shows d m is fresh before offers are gates (outputs d v) fits;
      next = refl;
    }

pub first-pins : (d : Design) (m : Map) → IsMapOf d m → (fresh : Bool) (before : Option Row) (offers : Offers) → AreOffers m.channels offers
    → (gates : ℕ) → gates < 2 ^ length m.channels
    → ArePins d m false (row_of m fresh before offers gates [])
    (map (number_for (entered m false (row_of m fresh before offers gates []))) (range_with_len 0 (length (input_limits d))))
first-pins d m is fresh before offers are gates l = are-pins d m is false (row_of m fresh before offers gates [])
    (small-row m.channels (row_of m fresh before offers gates []) (row-over d m is fresh before offers are gates l [] (no-outputs d)))

module _ (d : Design) (m : Map) (law : IsLawful d) (one : HasOneMap d) (is : IsMapOf d m) (rule : List Row → Row → Type 0)
    (allowed : (before : List Row) → AreRows m.channels before → Allows m.channels rule before) where
  grow : (n : ℕ) → Lists d m rule n → ∥ Lists d m rule (suc n) ∥₁
  grow n x =
      let before = row_before x.rows (length x.rows) in
      let w = allowed x.rows x.played.marked in
      let s = x.played.driven.state (length x.rows) in
      let pins = map (number_for (entered m false (row_of m w.fresh before w.offers w.gates []))) (range_with_len 0 (length (input_limits d))) in
      let are = first-pins d m is w.fresh before w.offers w.are w.gates w.below in
      ∥∥₁_map {B = Lists d m rule (suc n)} (one.some s pins x.lawful are.fit) (λ (v : (v : Values) × IsSettled d s pins v).
      (let fits = fit-outputs d (ports-are_nets d law) v.0 v.1.keeps.fit in
      let row = row_of m w.fresh before w.offers w.gates (outputs d v.0) in
      let over = row-over d m is w.fresh before w.offers w.are w.gates w.below (outputs d v.0) fits in
      let step = row-step d m (ports-are_nets d law) is w.fresh before w.offers w.are w.gates w.below s pins v.0 are v.1 in
      let g = played-push d m rule x.rows row (next d v.0 s) x.played
      (w.allows row over (row-carries d m is w.fresh before w.offers w.are w.gates (outputs d v.0) fits) refl refl) over
      (row-marked m w.fresh before w.offers w.gates (outputs d v.0)) step in
      record {
        rows = x.rows ++ row ∷ [];
        long = let l = x.long in omega (arith, length_push x.rows row, l);
        played = g.played;
        lawful = subst (IsState d) (sym g.state) (state-step d m law s row (next d v.0 s) x.lawful step);
      }))

  lists : (n : ℕ) → ∥ Lists d m rule n ∥₁
  lists zero = ∥∥₁_map {B = Lists d m rule 0} (first-some d m law one is m.reset) (λ (s : (s : Values) × IsAfterReset d m m.reset s).
      (let g = played-nil d m rule s.0 s.1 in
      record { rows = []; long = refl; played = g.played; lawful = subst (IsState d) (sym g.state) (first-state d m law m.reset s.0 s.1) }))
  lists (suc n) = ∥∥₁_elim (lists n) ∥∥₁_prop (grow n)

  pub some-list : (n : ℕ) → ∥ ((rows : List Row) × (length rows ≡ n) × IsPlayed d m rule rows) ∥₁
  some-list n = ∥∥₁_map {B = (rows : List Row) × (length rows ≡ n) × IsPlayed d m rule rows} (lists n)
      (λ (x : Lists d m rule n). (x.rows, x.long, x.played))

pub within : (rows : List Row) (k t : ℕ) (row : Row) → slice_get (take k rows) t ≡ Some row → t < k
within [] zero t row at = absurd (cc)
within [] (suc k) t row at = absurd (cc)
within (x ∷ xs) zero t row at = absurd (cc)
within (x ∷ xs) (suc k) zero row at = omega arith
within (x ∷ xs) (suc k) (suc t) row at = let l = within xs k t row at in omega arith

pub played-front : (d : Design) (m : Map) (rule : List Row → Row → Type 0) (rows : List Row) (k : ℕ) → IsPlayed d m rule rows
    → IsPlayed d m rule (take k rows)
played-front d m rule rows k p = record {
  marked = rows-front m.channels rows k p.marked;
  driven = record {
    state = p.driven.state;
    first = p.driven.first;
    steps = λ t row at. p.driven.steps t row (sym (slice_get-take k rows t (within rows k t row at)) ∙ at);
  };
  ruled = λ t row at.
      (let l = within rows k t row at in
      subst (λ (rs : List Row). rule rs row) (sym (take-take t k rows (omega arith)))
      (p.ruled t row (sym (slice_get-take k rows t l) ∙ at)));
}
