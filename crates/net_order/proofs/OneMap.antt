-- A lawful design whose drivers have an order has exactly one settled map for each state and all fitting inputs.
use Rattle.std.proofs.Common.{◌≡◌, ℕ, zero, suc, ◌^◌, ◌<◌, ◌≤◌, ◌||◌, not, nat_lt, Bool, true, false, Option, Some}
use Rattle.std.proofs.Common.{List, [], ◌∷◌, All, length, get_or, map, slice_get, slice_index, if◌then◌else◌, ⊎_elim, refl}
use Rattle.std.proofs.Common.{ap, sym, subst, ◌∙◌, arith}
use Rattle.std.specs.Int.{bit_at}
use Rattle.std.proofs.lemmas.Bool.{cases_lt, eq-eqb, eqb-true, lt-ltb, not-true, or_cases, or_right, and_parts, cases_Bool, or_left}
use Rattle.std.proofs.lemmas.List.Folds.{Any-from_list_any}
use Rattle.std.proofs.lemmas.Nat.{pow_pos}
use Rattle.std.proofs.lemmas.Nat.Bits.{bit_at_above, same_from_bits}
use Rattle.net_order.proofs.GraphLaws.{writer_within}
use Rattle.vidi_bits.proofs.Bools.{or_none, not_both}
use Rattle.net_design.specs.declared.act.Act.{Act}
use Rattle.net_design.specs.declared.design.Net.{Net}
use Rattle.net_design.specs.declared.design.Port.{Port}
use Rattle.net_design.specs.declared.design.Register.{Register}
use Rattle.net_design.specs.declared.design.Driver.{Driver}
use Rattle.net_design.specs.declared.design.Design.{Design}
use Rattle.net_design.specs.declared.values.Values.{Values}
use Rattle.net_design.specs.Updates.{run}
use Rattle.net_design.specs.Settled.{net_width, held, FitNets, IsSettled}
use Rattle.net_design.specs.Lawful.{IsLawful, IsState, IsRegister, is_input, is_input_port}
use Rattle.net_design.specs.Pins.{FitPins, HasOneMap, is_clock, port_limits}
use Rattle.net_order.specs.Order.{IsOrder}
use Rattle.net_order.specs.Run.{acts_of, start, settled_by}
use Rattle.net_order.proofs.SameRun.{Agree}
use Rattle.net_order.proofs.Kept.{same_values}
use Rattle.net_order.proofs.Settling.{driver_fits, driver_words, InOrder, all_fit, all_words, known_stay, settles, one_map, given}
use Rattle.net_order.proofs.Settling.{some_writer, in_order}
use Rattle.net_order.proofs.Entered.{entered_long, entered_other, pins_entered, entered_below, limits_long, limit_at, same_pins}
use Rattle.net_order.proofs.Entered.{pins_decide}

acts_at : (xs : List Driver) (k : ℕ) (x : Driver) → k < length xs → acts_of xs k ≡ (get_or xs k x).code.acts
acts_at [] k x l = absurd (omega arith)
acts_at (y ∷ xs) zero x l = refl
acts_at (y ∷ xs) (suc k) x l = acts_at xs k x (omega arith)

port_at : (ports : List Port) (m : ℕ) → is_input_port (slice_get ports m) ≡ true → (p : Port) × (slice_get ports m ≡ Some p)
port_at [] m h = absurd cc
port_at (p ∷ ports) zero h = (p, refl)
port_at (p ∷ ports) (suc m) h = port_at ports m h

get_within : {X : Type 0} (xs : List X) (m : ℕ) (x : X) → slice_get xs m ≡ Some x → m < length xs
get_within [] m x h = absurd cc
get_within (y ∷ xs) zero x h = omega arith
get_within (y ∷ xs) (suc m) x h = let l = get_within xs m x h in omega arith

net_at : (ns : List Net) (m : ℕ) → m < length ns → (n : Net) × (slice_get ns m
    ≡ Some n) × (slice_index (map (λ (n : Net). n.width) ns) m ≡ n.width)
net_at [] m l = absurd (omega arith)
net_at (n ∷ ns) zero l = (n, refl, refl)
net_at (n ∷ ns) (suc m) l = net_at ns m (omega arith)

clock_is : (c : Option ℕ) (k : ℕ) → c ≡ Some k → is_clock c k ≡ true
clock_is c k h = subst (λ o. is_clock o k ≡ true) (sym h) (eq-eqb k k refl)

limit_le : (b : Bool) (w : ℕ) → (if b then 1 else 2 ^ w) ≤ 2 ^ w
limit_le true w = let p = pow_pos w in omega arith
limit_le false w = omega arith

limit_clock : (b : Bool) (w x : ℕ) → b ≡ true → x < (if b then 1 else 2 ^ w) → x ≡ 0
limit_clock true w x t l = omega arith
limit_clock false w x t l = absurd cc

-- past the last driver nothing is run
fixed_in : (xs : List Driver) (v : Values) → All (λ (x : Driver). run x.code.acts v ≡ v) xs → (i : ℕ) → run (acts_of xs i) v ≡ v
fixed_in [] v h i = refl
fixed_in (x ∷ xs) v h zero = h zero x (omega arith)
fixed_in (x ∷ xs) v h (suc i) = fixed_in xs v (λ k y l. h (suc k) y (omega arith)) i

zero_above : (x w k : ℕ) → x < 2 ^ w → (not (nat_lt k w)) ≡ true → bit_at x k ≡ 0
zero_above x w k l t = ⊎_elim
    (λ (h : k < w). absurd (not_both (nat_lt k w) (lt-ltb k w h) (not-true (nat_lt k w) t)))
    (λ (g : w ≤ k). bit_at_above x w k l g)
    (cases_lt k w)

module _ (d : Design) (law : IsLawful d) where
  input_held : (m k : ℕ) → held d m k ≡ true → is_input d m ≡ false
  input_held m k h =
      let any = Any-from_list_any _ d.registers h in
      let r : Register = any.1 in
      let t = and_parts _ _ any.4 in
      let here : r.net ≡ m = eqb-true _ _ t.0 in
      let register : IsRegister d r = subst (IsRegister d) any.3 (law.registers any.0 r any.2) in
      subst (λ n. is_input d n ≡ false) here register.driven

  module _ (s : Values) (pins : List ℕ) (state : IsState d s) (fit : FitPins d pins) where
    abbrev from : Values
    from = start d s pins

    long : length (port_limits d) ≡ length d.ports
    long = limits_long d.clock 0 d.ports

    -- an input's number
    input_number : (m : ℕ) → is_input d m ≡ true
        → (p : Port) × (slice_get d.ports m ≡ Some p) × (slice_index from.nets m < (if is_clock d.clock m then 1 else 2 ^ p.width))
    input_number m t =
        let p = port_at d.ports m t in
        let few : length d.ports ≤ length s.nets = subst (λ n. length d.ports ≤ n) (sym state.nets.long) law.ports in
        let below = entered_below d.ports (port_limits d) pins s.nets m long few fit.long fit.each t in
        let limit = limit_at d.clock 0 d.ports m p.0 p.1 in
        let here : slice_index (port_limits d) m ≡ (if is_clock d.clock m then 1 else 2 ^ p.0.width) =
        limit ∙ ap (λ n. if is_clock d.clock n then 1 else 2 ^ p.0.width) (omega arith) in
        (p.0, p.1, subst (λ n. slice_index from.nets m < n) here below)

    input_fits : (m : ℕ) → is_input d m ≡ true → slice_index from.nets m < 2 ^ net_width d m
    input_fits m t =
        let r = input_number m t in
        let p : Port = r.0 in
        let l = get_within d.ports m p r.1 in
        let few : length d.ports ≤ length d.nets = law.ports in
        let n = net_at d.nets m (omega arith) in
        let same = law.port_nets m p n.0 r.1 n.1 in
        let width : net_width d m ≡ p.width = n.2 ∙ same.1 in
        let most = limit_le (is_clock d.clock m) p.width in
        let below : slice_index from.nets m < 2 ^ p.width = omega (arith, most, r.2) in
        subst (λ w. slice_index from.nets m < 2 ^ w) (sym width) below

    pub start_fits : FitNets d from.nets
    start_fits = record {
      long = entered_long d.ports pins s.nets ∙ state.nets.long;
      each = λ m. ⊎_elim
          (λ (t : is_input d m ≡ true). input_fits m t)
          (λ (f : is_input d m ≡ false). subst (λ n. n < 2 ^ net_width d m) (sym (entered_other d.ports pins s.nets m f))
          (state.nets.each m))
          (cases_Bool (is_input d m));
    }

    module _ (order : List ℕ) (o : IsOrder d order) where
      abbrev settled : Values
      settled = settled_by d order s pins

      ordered : InOrder d law (given d law) order
      ordered = in_order d law (given d law) [] order (λ m k. or_none (given d law m k)) o.follows

      fits : FitNets d settled.nets
      fits = all_fit d law (given d law) order ordered from start_fits

      stays : Agree (given d law) settled from
      stays = known_stay d law (given d law) order ordered from start_fits

      same_input : (m : ℕ) → is_input d m ≡ true → slice_index settled.nets m ≡ slice_index from.nets m
      same_input m t =
          same_from_bits _ _ (λ k. stays m k (or_right (not (nat_lt k (net_width d m))) (is_input d m || held d m k)
          (or_left (is_input d m) (held d m k) t)))

      fixed : (i : ℕ) → i < length d.drivers → run (acts_of d.drivers i) settled ≡ settled
      fixed i l =
          same_values d law (run (acts_of d.drivers i) settled) settled (driver_fits d law i l settled fits) fits
          (driver_words d law i l settled)
          (settles d law (given d law) order ordered from start_fits i (o.all i l))

      pub is_settled : IsSettled d s pins settled
      is_settled = record {
        keeps = record {
          fit = fits;
          clock = λ k c.
              let t : is_input d k ≡ true = (law.clock k c).0 in
              let r = input_number k t in
              same_input k t ∙ limit_clock (is_clock d.clock k) r.0.width (slice_index from.nets k) (clock_is d.clock k c) r.2;
          state = λ m k h.
              stays m k (or_right (not (nat_lt k (net_width d m))) (is_input d m || held d m k) (or_right (is_input d m) (held d m k) h))
              ∙ ap (λ n. bit_at n k) (entered_other d.ports pins s.nets m (input_held m k h));
          words = all_words d law (given d law) order ordered from;
        };
        inputs =
            same_pins d.ports settled.nets from.nets (fits.long ∙ sym start_fits.long) same_input
            ∙ pins_entered d.ports (port_limits d) pins s.nets long (subst (λ n. length d.ports ≤ n) (sym state.nets.long) law.ports)
            fit.long;
        driven = λ k x l.
            subst (λ (acts : List Act). run acts settled ≡ settled) (acts_at d.drivers k x l) (fixed k l);
      }

  -- ---- no other map is settled
  pub only_map : (order : List ℕ) → IsOrder d order → (s : Values) (pins : List ℕ) (u v : Values) → IsSettled d s pins u
      → IsSettled d s pins v → u ≡ v
  only_map order o s pins u v su sv =
      let words : u.words ≡ v.words = su.keeps.words ∙ sym sv.keeps.words in
      let ordered : InOrder d law (given d law) order =
      in_order d law (given d law) [] order (λ m k. or_none (given d law m k)) o.follows in
      let fu = su.keeps.fit in
      let fv = sv.keeps.fit in
      let known : Agree (given d law) u v = λ m k t. ⊎_elim
      (λ (a : not (nat_lt k (net_width d m)) ≡ true). zero_above _ (net_width d m) k (fu.each m) a
      ∙ sym (zero_above _ (net_width d m) k (fv.each m) a))
      (λ (b : (is_input d m || held d m k) ≡ true). ⊎_elim
      (λ (i : is_input d m ≡ true).
      ap (λ n. bit_at n k) (pins_decide d.ports u.nets v.nets (fu.long ∙ sym fv.long) (su.inputs ∙ sym sv.inputs) m i))
      (λ (h : held d m k ≡ true). su.keeps.state m k h ∙ sym (sv.keeps.state m k h))
      (or_cases (is_input d m) (held d m k) b))
      (or_cases (not (nat_lt k (net_width d m))) (is_input d m || held d m k) t) in
      let written = one_map d law (given d law) order ordered u v fu fv words
      (λ i c. fixed_in d.drivers u su.driven i) (λ i c. fixed_in d.drivers v sv.driven i) known in
      same_values d law u v fu fv words (λ m k. ⊎_elim
      (λ (g : given d law m k ≡ true). known m k g)
      (λ (n : given d law m k ≡ false).
      let w = some_writer d law m k n in
      written w.0 (o.all w.0 (writer_within d.drivers w.0 m k w.1)) m k w.1)
      (cases_Bool (given d law m k)))

  pub has_one_map : (order : List ℕ) → IsOrder d order → HasOneMap d
  has_one_map order o = record {
    some = λ s pins state fit. ∣ (settled_by d order s pins, is_settled s pins state fit order o) ∣₁;
    only = λ s pins u v state fit su sv. only_map order o s pins u v su sv;
  }
