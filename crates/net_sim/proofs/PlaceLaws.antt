-- The places of ports, and their numbers.
use Rattle.std.proofs.Common.{◌≡◌, ℕ, zero, suc, ◌+◌, ◌^◌, ◌<◌, ◌≤◌, Bool, true, false, Option, cond, List, [], ◌∷◌, length, drop, map}
use Rattle.std.proofs.Common.{replicate, slice_index, if◌then◌else◌, refl, ap, sym, subst, ◌∙◌, arith}
use Rattle.std.specs.List.{count_by, enumerate_from}
use Rattle.std.proofs.lemmas.List.{get_or-replicate, length-replicate}
use Rattle.std.proofs.lemmas.List.Sums.{sum_by-cons}
use Rattle.std.proofs.lemmas.Nat.{pow_pos}
use Rattle.net_order.proofs.Entered.{limits_long}
use Rattle.net_design.specs.declared.design.Port.{Port}
use Rattle.net_design.specs.declared.design.Direction.{Direction}
use Rattle.net_design.specs.declared.design.Direction.TheVariants.{Input}
use Rattle.net_design.specs.declared.design.Design.{Design}
use Rattle.net_design.specs.Settled.{same_direction, pins_of}
use Rattle.net_design.specs.Pins.{FitPins, is_clock, port_limits, input_limits}
use Rattle.net_sim.specs.Places.{port_places}

-- ---- how many there are
count_step : (b : Bool) (k n : ℕ) (ps : List ℕ) → length ps ≡ n → length (if b then k ∷ ps else ps) ≡ cond b 1 0 + n
count_step true k n ps h = omega arith
count_step false k n ps h = omega arith

pub places_count : (direction : Direction) (k : ℕ) (ports : List Port)
    → length (port_places direction k ports) ≡ count_by (λ (p : Port). same_direction direction p.direction) ports
places_count direction k [] = refl
places_count direction k (p ∷ ports) =
    count_step (same_direction direction p.direction) k (count_by (λ (p : Port). same_direction direction p.direction) ports)
    (port_places direction (k + 1) ports) (places_count direction (k + 1) ports)
    ∙ sym (sum_by-cons (λ (p : Port). cond (same_direction direction p.direction) 1 0) p ports)

long_step : (b : Bool) (x k : ℕ) (xs ps : List ℕ) → length ps ≡ length xs
    → length (if b then k ∷ ps else ps) ≡ length (if b then x ∷ xs else xs)
long_step true x k xs ps h = omega arith
long_step false x k xs ps h = h

pub places_long : (direction : Direction) (k : ℕ) (ports : List Port) (xs : List ℕ) → length xs ≡ length ports
    → length (port_places direction k ports) ≡ length (pins_of direction ports xs)
places_long direction k [] xs e = refl
places_long direction k (p ∷ ports) [] e = absurd (omega arith)
places_long direction k (p ∷ ports) (x ∷ xs) e =
    long_step (same_direction direction p.direction) x k (pins_of direction ports xs) (port_places direction (k + 1) ports)
    (places_long direction (k + 1) ports xs (omega arith))

-- ---- the numbers at these places
at_step : (b : Bool) (j x k : ℕ) (xs ps all : List ℕ) → x ≡ slice_index all k
    → ((i : ℕ) → i < length ps → slice_index xs i ≡ slice_index all (slice_index ps i)) → j < length (if b then k ∷ ps else ps)
    → slice_index (if b then x ∷ xs else xs) j ≡ slice_index all (slice_index (if b then k ∷ ps else ps) j)
at_step true zero x k xs ps all e f l = e
at_step true (suc j) x k xs ps all e f l = f j (omega arith)
at_step false j x k xs ps all e f l = f j l

front_of : (all : List ℕ) (k x : ℕ) (rest : List ℕ) → x ∷ rest ≡ drop k all → (x ≡ slice_index all k) × (rest ≡ drop (k + 1) all)
front_of [] zero x rest e = absurd cc
front_of [] (suc k) x rest e = absurd cc
front_of (y ∷ all) zero x rest e = (cc, cc)
front_of (y ∷ all) (suc k) x rest e = let r = front_of all k x rest e in
    let same : suc (k + 1) ≡ suc k + 1 = omega arith in (r.0, r.1 ∙ ap (λ (n : ℕ). drop n (y ∷ all)) same)

pub pins_at : (direction : Direction) (ports : List Port) (k : ℕ) (all nets : List ℕ) → nets ≡ drop k all → length ports ≤ length nets
    → (j : ℕ) → j < length (port_places direction k ports)
    → slice_index (pins_of direction ports nets) j ≡ slice_index all (slice_index (port_places direction k ports) j)
pins_at direction [] k all nets e h j l = absurd (omega arith)
pins_at direction (p ∷ ports) k all [] e h j l = absurd (omega arith)
pins_at direction (p ∷ ports) k all (x ∷ nets) e h j l =
    let f = front_of all k x nets e in
    at_step (same_direction direction p.direction) j x k (pins_of direction ports nets) (port_places direction (k + 1) ports) all f.0
    (λ i m. pins_at direction ports (k + 1) all nets f.1 (omega arith) i m) l

-- ---- zeros fit

limit_some : (b : Bool) (w : ℕ) → 0 < (if b then 1 else 2 ^ w)
limit_some true w = omega arith
limit_some false w = pow_pos w

limits_some : (clock : Option ℕ) (k : ℕ) (ports : List Port) (j : ℕ) → j < length ports
    → 0 < slice_index (map (λ (p : ℕ × Port). if is_clock clock p.0 then 1 else 2 ^ p.1.width) (enumerate_from k ports)) j
limits_some clock k [] j l = absurd (omega arith)
limits_some clock k (p ∷ ports) zero l = limit_some (is_clock clock k) p.width
limits_some clock k (p ∷ ports) (suc j) l = limits_some clock (k + 1) ports j (omega arith)

some_step : (b : Bool) (j x : ℕ) (xs : List ℕ) → 0 < x → ((i : ℕ) → i < length xs → 0 < slice_index xs i)
    → j < length (if b then x ∷ xs else xs) → 0 < slice_index (if b then x ∷ xs else xs) j
some_step true zero x xs h f l = h
some_step true (suc j) x xs h f l = f j (omega arith)
some_step false j x xs h f l = f j l

taken_some : (ports : List Port) (xs : List ℕ) → ((i : ℕ) → i < length xs → 0 < slice_index xs i) → (j : ℕ)
    → j < length (pins_of Input ports xs) → 0 < slice_index (pins_of Input ports xs) j
taken_some [] xs h j l = absurd (omega arith)
taken_some (p ∷ ports) [] h j l = absurd (omega arith)
taken_some (p ∷ ports) (x ∷ xs) h j l =
    some_step (same_direction Input p.direction) j x (pins_of Input ports xs) (h 0 (omega arith))
    (λ i m. taken_some ports xs (λ n o. h (suc n) (omega arith)) i m) l

pub inputs_counted : (d : Design) → length (port_places Input 0 d.ports) ≡ length (input_limits d)
inputs_counted d = places_long Input 0 d.ports (port_limits d) (limits_long d.clock 0 d.ports)

pub zeros_fit : (d : Design) (pins : List ℕ) → pins ≡ replicate (length (input_limits d)) 0 → FitPins d pins
zeros_fit d pins e =
    let n = length (input_limits d) in
    let long : length pins ≡ n = ap length e ∙ length-replicate n 0 in
    record {
      long = long;
      each = λ j l.
          let inside : j < n = omega (arith, l, long) in
          let zero_there : slice_index pins j ≡ 0 = ap (λ (xs : List ℕ). slice_index xs j) e ∙ get_or-replicate n j 0 0 inside in
          let some = taken_some d.ports (port_limits d)
          (λ i m. limits_some d.clock 0 d.ports i (subst (λ k. i < k) (limits_long d.clock 0 d.ports) m)) j inside in
          subst (λ x. x < slice_index (input_limits d) j) (sym zero_there) some;
    }

-- ---- places are those of ports
below_step : (b : Bool) (j k n : ℕ) (ps : List ℕ) → ((i : ℕ) → i < length ps → slice_index ps i < k + 1 + n)
    → j < length (if b then k ∷ ps else ps) → slice_index (if b then k ∷ ps else ps) j < k + 1 + n
below_step true zero k n ps f l = omega arith
below_step true (suc j) k n ps f l = f j (omega (arith, l))
below_step false j k n ps f l = f j l

pub place_below : (direction : Direction) (k : ℕ) (ports : List Port) (j : ℕ) → j < length (port_places direction k ports)
    → slice_index (port_places direction k ports) j < k + length ports
place_below direction k [] j l = absurd (omega arith)
place_below direction k (p ∷ ports) j l =
    let h = below_step (same_direction direction p.direction) j k (length ports) (port_places direction (k + 1) ports)
    (λ i m. place_below direction (k + 1) ports i m) l in
    omega (arith, h)
