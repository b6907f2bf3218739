-- The inputs and the outputs of a flat design by place, and numbers beside them.
use Rattle.std.proofs.Common.{◌≡◌, ℕ, zero, suc, ◌+◌, ◌<◌, ◌≤◌, ◌^◌, Bool, true, false, if◌then◌else◌, List, [], ◌∷◌, ◌++◌, map, length}
use Rattle.std.proofs.Common.{Option, Some, get_or, slice_get, refl, sym, ap, ◌∙◌, subst, arith}
use Rattle.std.specs.List.{AllZip, enumerate_from}
use Rattle.std.proofs.lemmas.Nat.{pow_pos}
use Rattle.net_design.specs.declared.design.Direction.{Direction}
use Rattle.net_design.specs.declared.design.Direction.TheVariants.{Input}
use Rattle.net_design.specs.declared.design.Instance.{Instance}
use Rattle.net_design.specs.declared.design.Net.{Net}
use Rattle.net_design.specs.declared.design.Port.{Port}
use Rattle.net_design.specs.declared.design.Design.{Design}
use Rattle.net_design.specs.Names.{list_at, paths, paths_after}
use Rattle.net_design.specs.Pins.{is_clock, input_limits, FitPins}
use Rattle.net_design.specs.Settled.{same_direction, pins_of}

abbrev pub Name : Type 0
Name = List ℕ

abbrev pub Full : Type 0
Full = List (List ℕ)

-- ---- the ports of one direction, in port order
abbrev pub ways_of : Direction → List Port → List Port
ways_of way [] = []
ways_of way (p ∷ ps) = if same_direction way p.direction then p ∷ ways_of way ps else ways_of way ps

append_if : (b : Bool) (p : Port) (xs ys zs : List Port) → zs ≡ xs ++ ys
    → (if b then p ∷ zs else zs) ≡ (if b then p ∷ xs else xs) ++ ys
append_if true p xs ys zs e = ap (λ qs. p ∷ qs) e
append_if false p xs ys zs e = e

pub ways_append : (way : Direction) (xs ys : List Port) → ways_of way (xs ++ ys) ≡ ways_of way xs ++ ways_of way ys
ways_append way [] ys = refl
ways_append way (p ∷ xs) ys =
    append_if (same_direction way p.direction) p (ways_of way xs) (ways_of way ys) (ways_of way (xs ++ ys)) (ways_append way xs ys)

-- ---- what the ports show of a map
path_stays : (known : List (List (List ℕ))) (rest : List Instance) (x : List (List ℕ)) → list_at (paths_after (x ∷ known) rest) 0 ≡ x
path_stays known [] x = refl
path_stays known (i ∷ rest) x = path_stays (known ++ (list_at (x ∷ known) i.parent ++ i.name ∷ []) ∷ []) rest x

pub first_path : (is : List Instance) → list_at (paths is) 0 ≡ []
first_path [] = refl
first_path (i ∷ is) = path_stays [] is []

module _ (way : Direction) (v : Full → ℕ) where
  abbrev number : Port → ℕ
  number p = v (p.name ∷ [])

  pick : (b : Bool) (p : Port) (x : ℕ) (xs : List ℕ) (ws : List Port) → x ≡ number p → xs ≡ map number ws
      → (if b then x ∷ xs else xs) ≡ map number (if b then p ∷ ws else ws)
  pick true p x xs ws e h = ap (λ y. y ∷ xs) e ∙ ap (λ ys. number p ∷ ys) h
  pick false p x xs ws e h = h

  pub named_from : (full : Net → Full) (ports : List Port) (nets : List Net) → length ports ≤ length nets
      → ((k : ℕ) (p : Port) (n : Net) → slice_get ports k ≡ Some p → slice_get nets k ≡ Some n → full n ≡ p.name ∷ [])
      → pins_of way ports (map v (map full nets)) ≡ map number (ways_of way ports)
  named_from full [] nets few h = refl
  named_from full (p ∷ ps) [] few h = absurd (omega (arith, few))
  named_from full (p ∷ ps) (n ∷ ns) few h =
      pick (same_direction way p.direction) p (v (full n)) (pins_of way ps (map v (map full ns))) (ways_of way ps)
      (ap v (h 0 p n refl refl))
      (named_from full ps ns (omega (arith, few)) (λ k q m a b. h (suc k) q m a b))

-- ---- lists beside each other
pub zip_map : {X : Type 0} (f : X → ℕ) (xs : List X) (ys : List ℕ) → map f xs ≡ ys → AllZip (λ x y. f x ≡ y) xs ys
zip_map f [] [] e = tt
zip_map f [] (y ∷ ys) e = absurd (cc)
zip_map f (x ∷ xs) [] e = absurd (cc)
zip_map f (x ∷ xs) (y ∷ ys) e = (let a : f x ≡ y = cc in a, let b : map f xs ≡ ys = cc in zip_map f xs ys b)

pub zip_append : {X Y : Type 0} (R : X → Y → Type 0) (xs zs : List X) (ys ws : List Y) → AllZip R xs ys → AllZip R zs ws
    → AllZip R (xs ++ zs) (ys ++ ws)
zip_append R [] zs [] ws a b = b
zip_append R [] zs (y ∷ ys) ws a b = absurd a
zip_append R (x ∷ xs) zs [] ws a b = absurd a
zip_append R (x ∷ xs) zs (y ∷ ys) ws a b = (a.0, zip_append R xs zs ys ws a.1 b)

pub zip_split : {X Y : Type 0} (R : X → Y → Type 0) (xs zs : List X) (ys ws : List Y) → length xs ≡ length ys
    → AllZip R (xs ++ zs) (ys ++ ws) → AllZip R xs ys × AllZip R zs ws
zip_split R [] zs [] ws e h = (tt, h)
zip_split R [] zs (y ∷ ys) ws e h = absurd (omega (arith, e))
zip_split R (x ∷ xs) zs [] ws e h = absurd (omega (arith, e))
zip_split R (x ∷ xs) zs (y ∷ ys) ws e h =
    (let r = zip_split R xs zs ys ws (omega (arith, e)) h.1 in ((h.0, r.0), r.1))

pub zip_long : {X Y : Type 0} (R : X → Y → Type 0) (xs : List X) (ys : List Y) → AllZip R xs ys → length xs ≡ length ys
zip_long R [] [] h = refl
zip_long R [] (y ∷ ys) h = absurd h
zip_long R (x ∷ xs) [] h = absurd h
zip_long R (x ∷ xs) (y ∷ ys) h = ap suc (zip_long R xs ys h.1)

zip_at : (R : ℕ → ℕ → Type 0) (xs ys : List ℕ) → AllZip R xs ys → (j : ℕ) → j < length ys → R (get_or xs j 0) (get_or ys j 0)
zip_at R [] [] h j l = absurd (omega (arith, l))
zip_at R [] (y ∷ ys) h j l = absurd h
zip_at R (x ∷ xs) [] h j l = absurd h
zip_at R (x ∷ xs) (y ∷ ys) h zero l = h.0
zip_at R (x ∷ xs) (y ∷ ys) h (suc j) l = zip_at R xs ys h.1 j (omega (arith, l))

-- ---- numbers that fit the inputs
abbrev pub Fits : Port → ℕ → Type 0
Fits p n = n < 2 ^ p.width

abbrev Below : ℕ → ℕ → Type 0
Below limit n = n < limit

module _ (clock : Option ℕ) where
  abbrev limit : ℕ × Port → ℕ
  limit q = if is_clock clock q.0 then 1 else 2 ^ q.1.width

  limit_if : (b : Bool) (w n : ℕ) → b ≡ false → n < 2 ^ w → n < (if b then 1 else 2 ^ w)
  limit_if true w n e h = absurd (cc)
  limit_if false w n e h = h

  low_if : (b : Bool) (w : ℕ) → 0 < (if b then 1 else 2 ^ w)
  low_if true w = omega arith
  low_if false w = pow_pos w

  next_fits : (b : Bool) (p : Port) (lim : ℕ) (ps : List Port) (lims pins : List ℕ)
      → ((n : ℕ) → Fits p n → n < lim) → ((rest : List ℕ) → AllZip Fits ps rest → AllZip Below lims rest)
      → AllZip Fits (if b then p ∷ ps else ps) pins → AllZip Below (if b then lim ∷ lims else lims) pins
  next_fits true p lim ps lims [] one more h = absurd h
  next_fits true p lim ps lims (n ∷ pins) one more h = (one n h.0, more pins h.1)
  next_fits false p lim ps lims pins one more h = more pins h

  fits_from : (k : ℕ) (ports : List Port) (pins : List ℕ) → ((j : ℕ) → k ≤ j → is_clock clock j ≡ false)
      → AllZip Fits (ways_of Input ports) pins → AllZip Below (pins_of Input ports (map limit (enumerate_from k ports))) pins
  fits_from k [] pins none h = empty pins h where
    empty : (ys : List ℕ) → AllZip Fits [] ys → AllZip Below [] ys
    empty [] a = tt
    empty (y ∷ ys) a = absurd a
  fits_from k (p ∷ ps) pins none h =
      next_fits (same_direction Input p.direction) p (limit (k, p)) (ways_of Input ps)
      (pins_of Input ps (map limit (enumerate_from (k + 1) ps))) pins
      (λ n f. limit_if (is_clock clock k) p.width n (none k (omega arith)) f)
      (λ rest z. fits_from (k + 1) ps rest (λ j l. none j (omega (arith, l))) z) h

-- The first port is an input, at which 0 stands; no other port is the clock. Then numbers that fit the other inputs fit the design.
pub fit_pins : (d : Design) (x : Name) (w : ℕ) (ports : List Port) (pins : List ℕ)
    → d.ports ≡ record { name = x; direction = Input; width = w } ∷ ports → ((j : ℕ) → 1 ≤ j → is_clock d.clock j ≡ false)
    → AllZip Fits (ways_of Input ports) pins → FitPins d (0 ∷ pins)
fit_pins d x w ports pins e none h =
    let first : Port = record { name = x; direction = Input; width = w } in
    let limits : input_limits d ≡ limit d.clock (0, first) ∷ pins_of Input ports (map (limit d.clock) (enumerate_from 1 ports)) =
    ap (λ ps. pins_of Input ps (map (limit d.clock) (enumerate_from 0 ps))) e in
    let below : AllZip Below (limit d.clock (0, first) ∷ pins_of Input ports (map (limit d.clock) (enumerate_from 1 ports))) (0 ∷ pins) =
    (low_if d.clock (is_clock d.clock 0) w, fits_from d.clock 1 ports pins none h) in
    let all : AllZip Below (input_limits d) (0 ∷ pins) = subst (λ ls. AllZip Below ls (0 ∷ pins)) (sym limits) below in
    record { long = sym (zip_long Below (input_limits d) (0 ∷ pins) all); each = λ j l. zip_at Below (input_limits d) (0 ∷ pins) all j l }
