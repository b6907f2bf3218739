-- The numbers of the input pins at the nets.
use Rattle.std.proofs.Common.{◌≡◌, ℕ, zero, suc, ◌+◌, ◌^◌, ◌<◌, ◌≤◌, Bool, true, false, Option, Some, List, [], ◌∷◌, length}
use Rattle.std.proofs.Common.{if◌then◌else◌, drop, map, slice_get, slice_index, refl, ap, ◌∙◌, arith}
use Rattle.std.specs.List.{enumerate_from}
use Rattle.vidi_bits.proofs.Lists.{some_same}
use Rattle.net_design.specs.declared.design.Port.{Port}
use Rattle.net_design.specs.declared.design.Direction.TheVariants.{Input}
use Rattle.net_design.specs.Settled.{pins_of}
use Rattle.net_design.specs.Lawful.{is_input_port}
use Rattle.net_design.specs.Pins.{is_clock}
use Rattle.net_order.specs.Run.{enters, entered}

-- the input pins among the numbers of ports
abbrev pub taken : List Port → List ℕ → List ℕ
taken ports xs = pins_of Input ports xs

pub entered_long : (ports : List Port) (pins nets : List ℕ) → length (entered ports pins nets) ≡ length nets
entered_long [] pins nets = refl
entered_long (p ∷ ports) pins [] = refl
entered_long (p ∷ ports) pins (x ∷ nets) = ap suc (entered_long ports (if enters p then drop 1 pins else pins) nets)

-- what isn't an input stays
by_false : (b : Bool) (x y : ℕ) → b ≡ false → (if b then x else y) ≡ y
by_false true x y h = absurd cc
by_false false x y h = refl

pub entered_other : (ports : List Port) (pins nets : List ℕ) (m : ℕ) → is_input_port (slice_get ports m) ≡ false
    → slice_index (entered ports pins nets) m ≡ slice_index nets m
entered_other [] pins nets m h = refl
entered_other (p ∷ ports) pins [] m h = refl
entered_other (p ∷ ports) pins (x ∷ nets) zero h = by_false (enters p) (slice_index pins 0) x h
entered_other (p ∷ ports) pins (x ∷ nets) (suc m) h = entered_other ports (if enters p then drop 1 pins else pins) nets m h

-- the pins of the ports are those that were entered
pins_step : (b : Bool) (x l : ℕ) (pins rest : List ℕ) (E : List ℕ → List ℕ)
    → length pins ≡ length (if b then l ∷ rest else rest)
    → ((ps : List ℕ) → length ps ≡ length rest → E ps ≡ ps)
    → (if b then (if b then slice_index pins 0 else x) ∷ E (if b then drop 1 pins else pins) else E
    (if b then drop 1 pins else pins)) ≡ pins
pins_step true x l [] rest E h f = absurd (omega arith)
pins_step true x l (y ∷ ys) rest E h f = ap (λ zs. y ∷ zs) (f ys (omega arith))
pins_step false x l pins rest E h f = f pins h

pub pins_entered : (ports : List Port) (limits pins nets : List ℕ) → length limits ≡ length ports → length ports ≤ length nets
    → length pins ≡ length (taken ports limits) → taken ports (entered ports pins nets) ≡ pins
pins_entered [] limits [] nets e l h = refl
pins_entered [] limits (y ∷ ys) nets e l h = absurd (omega arith)
pins_entered (p ∷ ports) [] pins nets e l h = absurd (omega arith)
pins_entered (p ∷ ports) (z ∷ limits) pins [] e l h = absurd (omega arith)
pins_entered (p ∷ ports) (z ∷ limits) pins (x ∷ nets) e l h =
    pins_step (enters p) x z pins (taken ports limits) (λ ps. taken ports (entered ports ps nets)) h
    (λ ps k. pins_entered ports limits ps nets (omega arith) (omega arith) k)

-- an input's number is below its limit
below_step : (b : Bool) (x l : ℕ) (pins rest : List ℕ) → b ≡ true → length pins ≡ length (if b then l ∷ rest else rest)
    → ((j : ℕ) → j < length pins → slice_index pins j < slice_index (if b then l ∷ rest else rest) j)
    → (if b then slice_index pins 0 else x) < l
below_step true x l pins rest t h f = f 0 (omega arith)
below_step false x l pins rest t h f = absurd cc

rest_long : (b : Bool) (l : ℕ) (pins rest : List ℕ) → length pins ≡ length (if b then l ∷ rest else rest)
    → length (if b then drop 1 pins else pins) ≡ length rest
rest_long true l [] rest h = absurd (omega arith)
rest_long true l (y ∷ ys) rest h = omega arith
rest_long false l pins rest h = h

rest_below : (b : Bool) (l : ℕ) (pins rest : List ℕ) → length pins ≡ length (if b then l ∷ rest else rest)
    → ((j : ℕ) → j < length pins → slice_index pins j < slice_index (if b then l ∷ rest else rest) j)
    → (j : ℕ) → j < length (if b then drop 1 pins else pins) → slice_index (if b then drop 1 pins else pins) j < slice_index rest j
rest_below true l [] rest h f j k = absurd (omega arith)
rest_below true l (y ∷ ys) rest h f j k = f (suc j) (omega arith)
rest_below false l pins rest h f j k = f j k

pub entered_below : (ports : List Port) (limits pins nets : List ℕ) (m : ℕ) → length limits ≡ length ports → length ports ≤ length nets
    → length pins ≡ length (taken ports limits)
    → ((j : ℕ) → j < length pins → slice_index pins j < slice_index (taken ports limits) j)
    → is_input_port (slice_get ports m) ≡ true → slice_index (entered ports pins nets) m < slice_index limits m
entered_below [] limits pins nets m e l h f t = absurd cc
entered_below (p ∷ ports) [] pins nets m e l h f t = absurd (omega arith)
entered_below (p ∷ ports) (z ∷ limits) pins [] m e l h f t = absurd (omega arith)
entered_below (p ∷ ports) (z ∷ limits) pins (x ∷ nets) zero e l h f t = below_step (enters p) x z pins (taken ports limits) t h f
entered_below (p ∷ ports) (z ∷ limits) pins (x ∷ nets) (suc m) e l h f t =
    entered_below ports limits (if enters p then drop 1 pins else pins) nets m (omega arith) (omega arith)
    (rest_long (enters p) z pins (taken ports limits) h) (rest_below (enters p) z pins (taken ports limits) h f) t

-- the limits of ports
pub limits_long : (clock : Option ℕ) (k : ℕ) (ports : List Port)
    → length (map (λ (p : ℕ × Port). if is_clock clock p.0 then 1 else 2 ^ p.1.width) (enumerate_from k ports)) ≡ length ports
limits_long clock k [] = refl
limits_long clock k (p ∷ ports) = ap suc (limits_long clock (k + 1) ports)

pub limit_at : (clock : Option ℕ) (k : ℕ) (ports : List Port) (m : ℕ) (p : Port) → slice_get ports m ≡ Some p
    → slice_index (map (λ (p : ℕ × Port). if is_clock clock p.0 then 1 else 2 ^ p.1.width) (enumerate_from k ports)) m
    ≡ (if is_clock clock (k + m) then 1 else 2 ^ p.width)
limit_at clock k [] m p h = absurd cc
limit_at clock k (q ∷ ports) zero p h =
    let same : q ≡ p = some_same q p h in
    ap (λ (x : Port). if is_clock clock k then 1 else 2 ^ x.width) same
    ∙ ap (λ n. if is_clock clock n then 1 else 2 ^ p.width) (omega arith)
limit_at clock k (q ∷ ports) (suc m) p h =
    limit_at clock (k + 1) ports m p h ∙ ap (λ n. if is_clock clock n then 1 else 2 ^ p.width) (omega arith)

-- ---- pins are decided by the input nets
input_step : (b : Bool) (x y : ℕ) (xs ys : List ℕ) → (b ≡ true → x ≡ y) → xs ≡ ys → (if b then x ∷ xs else xs) ≡ (if b then y ∷ ys else ys)
input_step true x y xs ys h e = ap (λ z. z ∷ xs) (h refl) ∙ ap (λ zs. y ∷ zs) e
input_step false x y xs ys h e = e

pub same_pins : (ports : List Port) (us vs : List ℕ) → length us ≡ length vs
    → ((m : ℕ) → is_input_port (slice_get ports m) ≡ true → slice_index us m ≡ slice_index vs m) → taken ports us ≡ taken ports vs
same_pins [] us vs e h = refl
same_pins (p ∷ ports) [] [] e h = refl
same_pins (p ∷ ports) [] (v ∷ vs) e h = absurd (omega arith)
same_pins (p ∷ ports) (u ∷ us) [] e h = absurd (omega arith)
same_pins (p ∷ ports) (u ∷ us) (v ∷ vs) e h =
    input_step (enters p) u v (taken ports us) (taken ports vs) (h 0) (same_pins ports us vs (omega arith) (λ m t. h (suc m) t))

-- ---- and decide them
first_same : (b : Bool) (x y : ℕ) (xs ys : List ℕ) → b ≡ true → (if b then x ∷ xs else xs) ≡ (if b then y ∷ ys else ys) → x ≡ y
first_same true x y xs ys t h = cc
first_same false x y xs ys t h = absurd cc

rest_same : (b : Bool) (x y : ℕ) (xs ys : List ℕ) → (if b then x ∷ xs else xs) ≡ (if b then y ∷ ys else ys) → xs ≡ ys
rest_same true x y xs ys h = cc
rest_same false x y xs ys h = h

pub pins_decide : (ports : List Port) (us vs : List ℕ) → length us ≡ length vs → taken ports us ≡ taken ports vs → (m : ℕ)
    → is_input_port (slice_get ports m) ≡ true → slice_index us m ≡ slice_index vs m
pins_decide [] us vs e h m t = absurd cc
pins_decide (p ∷ ports) [] [] e h m t = refl
pins_decide (p ∷ ports) [] (v ∷ vs) e h m t = absurd (omega arith)
pins_decide (p ∷ ports) (u ∷ us) [] e h m t = absurd (omega arith)
pins_decide (p ∷ ports) (u ∷ us) (v ∷ vs) e h zero t = first_same (enters p) u v (taken ports us) (taken ports vs) t h
pins_decide (p ∷ ports) (u ∷ us) (v ∷ vs) e h (suc m) t =
    pins_decide ports us vs (omega arith) (rest_same (enters p) u v (taken ports us) (taken ports vs) h) m t
