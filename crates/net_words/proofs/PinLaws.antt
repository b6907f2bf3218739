-- The inputs of a settled map fit.
use Rattle.std.proofs.Common.{◌≡◌, ℕ, zero, suc, ◌+◌, ◌^◌, ◌<◌, ◌≤◌, Bool, true, false, Option, Some, None, List, [], ◌∷◌, length, map}
use Rattle.std.proofs.Common.{slice_get, slice_index, if◌then◌else◌, refl, ap, sym, subst, ◌∙◌, arith}
use Rattle.std.proofs.lemmas.Bool.{eqb-true, cases_Bool}
use Rattle.std.proofs.lemmas.Option.{slice_get-get_or}
use Rattle.net_design.specs.declared.design.Net.{Net}
use Rattle.net_design.specs.declared.design.Port.{Port}
use Rattle.net_design.specs.declared.design.Direction.TheVariants.{Input}
use Rattle.net_design.specs.declared.design.Design.{Design}
use Rattle.net_design.specs.declared.values.Values.{Values}
use Rattle.net_design.specs.Settled.{same_direction, pins_of, net_width, IsSettled}
use Rattle.net_design.specs.Lawful.{IsLawful}
use Rattle.net_design.specs.Pins.{FitPins, is_clock, port_limits}
use Rattle.net_sim.proofs.net_order_lemmas.Entered.{limits_long, limit_at}

-- ---- what is below limits at the ports is so at the inputs
below_step : (b : Bool) (j x y : ℕ) (xs ys : List ℕ) → x < y
    → ((i : ℕ) → i < length xs → slice_index xs i < slice_index ys i) → j < length (if b then x ∷ xs else xs)
    → slice_index (if b then x ∷ xs else xs) j < slice_index (if b then y ∷ ys else ys) j
below_step true zero x y xs ys h f l = h
below_step true (suc j) x y xs ys h f l = f j (omega arith)
below_step false j x y xs ys h f l = f j l

long_step : (b : Bool) (x y : ℕ) (xs ys : List ℕ) → length xs ≡ length ys
    → length (if b then x ∷ xs else xs) ≡ length (if b then y ∷ ys else ys)
long_step true x y xs ys h = omega arith
long_step false x y xs ys h = h

pins_long : (ports : List Port) (xs ys : List ℕ) → length ports ≤ length xs → length ports ≤ length ys
    → length (pins_of Input ports xs) ≡ length (pins_of Input ports ys)
pins_long [] xs ys h k = refl
pins_long (p ∷ ports) [] ys h k = absurd (omega arith)
pins_long (p ∷ ports) (x ∷ xs) [] h k = absurd (omega arith)
pins_long (p ∷ ports) (x ∷ xs) (y ∷ ys) h k =
    long_step (same_direction Input p.direction) x y (pins_of Input ports xs) (pins_of Input ports ys)
    (pins_long ports xs ys (omega arith) (omega arith))

pins_below : (ports : List Port) (xs ys : List ℕ) → length ports ≤ length xs → length ports ≤ length ys
    → ((i : ℕ) → i < length ports → slice_index xs i < slice_index ys i) → (j : ℕ) → j < length (pins_of Input ports xs)
    → slice_index (pins_of Input ports xs) j < slice_index (pins_of Input ports ys) j
pins_below [] xs ys h k f j l = absurd (omega arith)
pins_below (p ∷ ports) [] ys h k f j l = absurd (omega arith)
pins_below (p ∷ ports) (x ∷ xs) [] h k f j l = absurd (omega arith)
pins_below (p ∷ ports) (x ∷ xs) (y ∷ ys) h k f j l =
    below_step (same_direction Input p.direction) j x y (pins_of Input ports xs) (pins_of Input ports ys) (f 0 (omega arith))
    (λ i m. pins_below ports xs ys (omega arith) (omega arith) (λ n o. f (suc n) (omega arith)) i m) l

-- ---- the number of a port's net is below its limit
clock_is : (clock : Option ℕ) (i : ℕ) → is_clock clock i ≡ true → clock ≡ Some i
clock_is None i t = absurd cc
clock_is (Some c) i t = ap Some (eqb-true c i t)

below_limit : (b : Bool) (x w : ℕ) → (b ≡ true → x ≡ 0) → x < 2 ^ w → x < (if b then 1 else 2 ^ w)
below_limit true x w z l = let h = z refl in omega (arith, h)
below_limit false x w z l = l

port_here : (ps : List Port) (i : ℕ) → i < length ps → (p : Port) × (slice_get ps i ≡ Some p)
port_here [] i l = absurd (omega arith)
port_here (p ∷ ps) zero l = (p, refl)
port_here (p ∷ ps) (suc i) l = port_here ps i (omega arith)

net_here : (ns : List Net) (i : ℕ) → i < length ns
    → (n : Net) × (slice_get ns i ≡ Some n) × (slice_index (map (λ (n : Net). n.width) ns) i ≡ n.width)
net_here [] i l = absurd (omega arith)
net_here (n ∷ ns) zero l = (n, refl, refl)
net_here (n ∷ ns) (suc i) l = net_here ns i (omega arith)

module _ (d : Design) (law : IsLawful d) (s v : Values) (pins : List ℕ) (settled : IsSettled d s pins v) where
  few : length d.ports ≤ length v.nets
  few = subst (λ n. length d.ports ≤ n) (sym settled.keeps.fit.long) law.ports

  limited : (i : ℕ) → i < length d.ports → slice_index v.nets i < slice_index (port_limits d) i
  limited i l =
      let p = port_here d.ports i l in
      let n = net_here d.nets i (omega (arith, l, law.ports)) in
      let same = law.port_nets i p.0 n.0 p.1 n.1 in
      let width : net_width d i ≡ p.0.width = n.2 ∙ same.1 in
      let fits : slice_index v.nets i < 2 ^ p.0.width = subst (λ w. slice_index v.nets i < 2 ^ w) width (settled.keeps.fit.each i) in
      let low : is_clock d.clock i ≡ true → slice_index v.nets i ≡ 0 = λ t. settled.keeps.clock i (clock_is d.clock i t) in
      let here : slice_index (port_limits d) i ≡ (if is_clock d.clock i then 1 else 2 ^ p.0.width) =
      limit_at d.clock 0 d.ports i p.0 p.1 ∙ ap (λ n. if is_clock d.clock n then 1 else 2 ^ p.0.width) (omega arith) in
      subst (λ n. slice_index v.nets i < n) (sym here)
      (below_limit (is_clock d.clock i) (slice_index v.nets i) p.0.width low fits)

  limits : length d.ports ≤ length (port_limits d)
  limits = let e = limits_long d.clock 0 d.ports in omega (arith, e)

  pub settled_fits : FitPins d pins
  settled_fits = subst (FitPins d) settled.inputs (record {
    long = pins_long d.ports v.nets (port_limits d) few limits;
    each = pins_below d.ports v.nets (port_limits d) few limits limited;
  })
