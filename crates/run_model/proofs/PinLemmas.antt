-- The pins of a cycle: exactly one list of numbers.
use Rattle.std.proofs.Common.{◌≡◌, ℕ, zero, suc, ◌+◌, ◌<◌, ◌≤◌, ◌^◌, ◌&&◌, ◌==◌, Bool, true, false, not, cond, List, [], ◌∷◌}
use Rattle.std.proofs.Common.{◌++◌, Option, Some, None, All, length, take, map, get_or, slice_get, count_by, refl, ap}
use Rattle.std.proofs.Common.{◌⊎◌, ltb, ⊎_elim, sym, subst, ◌∙◌, arith}
use Rattle.std.specs.List.{AllZip, enumerate_from, range_with_len}
use Rattle.std.specs.Option.{option_to_list, IfSome}
use Rattle.std.proofs.lemmas.Bool.{cases_order, lt-ltb, le-ltb, ne_eqb, eqb-true, eqb-false, eq-eqb, false≢true}
use Rattle.std.proofs.lemmas.List.{ext_get_or, length-map}
use Rattle.std.proofs.lemmas.List.Elements.{All-cons, All-append, All-nil, All-map, All-from_recursion, All-weaker}
use Rattle.std.proofs.lemmas.List.FromFn.{length-map-range_with_len, get_or-map-range_with_len, length-enumerate_from}
use Rattle.std.proofs.lemmas.List.Sums.{sum_by-append}
use Rattle.std.proofs.lemmas.Option.{get_or_from_slice_get, slice_get_within, slice_get-get_or}
use Rattle.std.proofs.lemmas.Nat.{pow_pos}
use Rattle.chan_map.specs.vidi_bits.Number.{truth, has}
use Rattle.chan_map.specs.trace_model.declared.channel.Channel.{Channel}
use Rattle.chan_map.specs.trace_model.declared.channel.Dir.{Dir}
use Rattle.chan_map.specs.trace_model.declared.channel.Dir.TheVariants.{Inward, Outward}
use Rattle.chan_map.specs.trace_model.declared.row.Row.{Row}
use Rattle.chan_map.specs.trace_model.Row.{content_at, sink_valid}
use Rattle.chan_map.proofs.trace_model_lemmas.CountingLemmas.{count-cons, nth, nth-below}
use Rattle.net_design.specs.declared.design.Port.{Port}
use Rattle.net_design.specs.declared.design.Direction.{Direction}
use Rattle.net_design.specs.declared.design.Direction.TheVariants.{Input, Output}
use Rattle.net_design.specs.declared.design.Design.{Design}
use Rattle.net_design.specs.Settled.{same_direction, pins_of}
use Rattle.net_design.specs.Pins.{output_count, is_clock, port_limits, input_limits}
use Rattle.chan_map.specs.declared.pins.Map.{Map}
use Rattle.chan_map.specs.declared.pins.Pin.{Pin}
use Rattle.chan_map.specs.declared.pins.Plug.{Plug}
use Rattle.chan_map.specs.declared.pins.Reset.{Reset}
use Rattle.chan_map.specs.declared.pins.Tie.{Tie}
use Rattle.chan_map.specs.Bound.{IsPin, IsPlug, IsTie}
use Rattle.chan_map.specs.Ports.{source_side, sink_side}
use Rattle.chan_map.specs.Places.{is_at, reset_places, tie_places, plugs_places, places}
use Rattle.run_model.specs.declared.pins.PinNumber.{PinNumber}
use Rattle.run_model.specs.Building.{number_for, AreSmall}
use Rattle.run_model.specs.MapOf.{IsMapOf}
use Rattle.run_model.specs.Pins.{pin_number, shown_number, plug_inputs, inputs_from, reset_input, tie_input, entered}
use Rattle.run_model.specs.Pins.{ArePins}

-- ---- lists
pub all-at : {X : Type 0} (P : X → Type 0) (xs : List X) (i : ℕ) (x : X) → All P xs → slice_get xs i ≡ Some x → P x
all-at P xs i x all at = subst P (get_or_from_slice_get xs i x x at) (all i x (slice_get_within xs i x at))

pub count-append : {X : Type 0} (test : X → Bool) (xs ys : List X) → count_by test (xs ++ ys) ≡ count_by test xs + count_by test ys
count-append test xs ys = sum_by-append (λ x. cond (test x) 1 0) xs ys

-- tests that agree on what two maps make of the same list
count-maps : {X Y Z : Type 0} (p : Y → Bool) (q : Z → Bool) (f : X → Y) (g : X → Z) → ((x : X) → p (f x) ≡ q (g x)) → (xs : List X)
    → count_by p (map f xs) ≡ count_by q (map g xs)
count-maps p q f g same [] = refl
count-maps p q f g same (x ∷ xs) = count-cons p (f x) (map f xs)
    ∙ ap (λ b. cond b 1 0 + count_by p (map f xs)) (same x)
    ∙ ap (λ n. cond (q (g x)) 1 0 + n) (count-maps p q f g same xs)
    ∙ sym (count-cons q (g x) (map g xs))

count-enumerated : {X Y Z : Type 0} (p : Y → Bool) (q : Z → Bool) (f : ℕ × X → Y) (g : X → Z) → ((n : ℕ) (x : X) → p (f (n, x)) ≡ q (g x))
    → (n : ℕ) (xs : List X) → count_by p (map f (enumerate_from n xs)) ≡ count_by q (map g xs)
count-enumerated p q f g same n [] = refl
count-enumerated p q f g same n (x ∷ xs) = count-cons p (f (n, x)) (map f (enumerate_from (n + 1) xs))
    ∙ ap (λ b. cond b 1 0 + count_by p (map f (enumerate_from (n + 1) xs))) (same n x)
    ∙ ap (λ k. cond (q (g x)) 1 0 + k) (count-enumerated p q f g same (n + 1) xs)
    ∙ sym (count-cons q (g x) (map g xs))

count-none : {X Y : Type 0} (p : Y → Bool) (f : X → Y) → ((x : X) → p (f x) ≡ false) → (xs : List X) → count_by p (map f xs) ≡ 0
count-none p f never [] = refl
count-none p f never (x ∷ xs) =
    let c = count-cons p (f x) (map f xs) in
    let z : cond {A = ℕ} (p (f x)) 1 0 ≡ 0 = ap (λ b. cond {A = ℕ} b 1 0) (never x) in
    let more = count-none p f never xs in
    omega (arith, c, z, more)

enumerated : {X : Type 0} (f : ℕ × X → ℕ) (n k j : ℕ) (xs : List X) (x : X) → slice_get xs k ≡ Some x → j ≡ n + k
    → get_or (map f (enumerate_from n xs)) k 0 ≡ f (j, x)
enumerated f n k j [] x at e = absurd (cc)
enumerated f n zero j (y ∷ ys) x at e =
    let same : y ≡ x = cc in
    let place : n ≡ j = omega (arith, e) in
    ap (λ m. f (m, y)) place ∙ ap (λ z. f (j, z)) same
enumerated f n (suc k) j (y ∷ ys) x at e = enumerated f (n + 1) k j ys x at (omega (arith, e))

-- ---- the pins of one direction
length-cond : (b : Bool) (x : ℕ) (xs : List ℕ) → length (cond b (x ∷ xs) xs) ≡ cond b 1 0 + length xs
length-cond true x xs = omega arith
length-cond false x xs = omega arith

length-pins : (way : Direction) (ports : List Port) (xs : List ℕ) → length xs ≡ length ports
    → length (pins_of way ports xs) ≡ count_by (λ (p : Port). same_direction way p.direction) ports
length-pins way [] xs e = refl
length-pins way (p ∷ ps) [] e = absurd (omega (arith, e))
length-pins way (p ∷ ps) (x ∷ xs) e =
    length-cond (same_direction way p.direction) x (pins_of way ps xs)
    ∙ ap (λ n. cond (same_direction way p.direction) 1 0 + n) (length-pins way ps xs (omega (arith, e)))
    ∙ sym (count-cons (λ (q : Port). same_direction way q.direction) p ps)

get-cond : (b : Bool) (x n : ℕ) (xs : List ℕ) → get_or (cond b (x ∷ xs) xs) (cond b 1 0 + n) 0 ≡ get_or xs n 0
get-cond true x n xs = let s : 1 + n ≡ suc n = omega arith in ap (λ i. get_or (x ∷ xs) i 0) s
get-cond false x n xs = let s : 0 + n ≡ n = omega arith in ap (λ i. get_or xs i 0) s

get-first : (b : Bool) (x : ℕ) (xs : List ℕ) → b ≡ true → get_or (cond b (x ∷ xs) xs) 0 0 ≡ x
get-first true x xs h = refl
get-first false x xs h = absurd (false≢true h)

-- the number at the place of a port
pub pin-at : (way : Direction) (ports : List Port) (xs : List ℕ) (k : ℕ) (p : Port) → slice_get ports k ≡ Some p
    → same_direction way p.direction ≡ true → length ports ≤ length xs
    → get_or (pins_of way ports xs) (count_by (λ (q : Port). same_direction way q.direction) (take k ports)) 0 ≡ get_or xs k 0
pin-at way [] xs k p at same e = absurd (cc)
pin-at way (q ∷ qs) [] k p at same e = absurd (omega (arith, e))
pin-at way (q ∷ qs) (x ∷ xs) zero p at same e =
    let here : q ≡ p = cc in
    get-first (same_direction way q.direction) x (pins_of way qs xs) (ap (λ (r : Port). same_direction way r.direction) here ∙ same)
pin-at way (q ∷ qs) (x ∷ xs) (suc k) p at same e =
    ap (λ i. get_or (cond (same_direction way q.direction) (x ∷ pins_of way qs xs) (pins_of way qs xs)) i 0)
    (count-cons (λ (r : Port). same_direction way r.direction) q (take k qs))
    ∙ get-cond (same_direction way q.direction) x (count_by (λ (r : Port). same_direction way r.direction) (take k qs)) (pins_of way qs xs)
    ∙ pin-at way qs xs k p at same (omega (arith, e))

-- its place is below their number
count-below : (test : Port → Bool) (ports : List Port) (k : ℕ) (p : Port) → slice_get ports k ≡ Some p → test p ≡ true
    → count_by test (take k ports) < count_by test ports
count-below test ports k p at passes = nth-below test ports (count_by test (take k ports)) k p
    (record { at = at; passes = passes; before = refl })

self : (way : Direction) → same_direction way way ≡ true
self Input = refl
self Output = refl

pub ways : (way : Direction) (p : Port) → p.direction ≡ way → same_direction way p.direction ≡ true
ways way p e = ap (same_direction way) e ∙ self way

pub input-count : (d : Design) → length (input_limits d) ≡ count_by (λ (p : Port). same_direction Input p.direction) d.ports
input-count d = length-pins Input d.ports (port_limits d)
    (length-map (enumerate_from 0 d.ports) (λ (p : ℕ × Port). cond (is_clock d.clock p.0) 1 (2 ^ p.1.width))
    ∙ length-enumerate_from 0 d.ports)

-- ---- the entered numbers, by their places
abbrev pub at_place : ℕ → PinNumber → Bool
at_place k e = e.place == k

abbrev side_places : Dir → Plug → List (Direction × ℕ)
side_places dir plug =
    (source_side dir, plug.valid.place) ∷ (sink_side dir, plug.ready.place) ∷ map (λ (p : Pin). (source_side dir, p.place)) plug.contents

count-two : {X : Type 0} (p : X → Bool) (x y : X) (xs : List X)
    → count_by p (x ∷ y ∷ xs) ≡ cond (p x) 1 0 + (cond (p y) 1 0 + count_by p xs)
count-two p x y xs = count-cons p x (y ∷ xs) ∙ ap (λ n. cond (p x) 1 0 + n) (count-cons p y xs)

count-side : (channels : List Channel) (row : Row) (k c : ℕ) (dir : Dir) (plug : Plug)
    → count_by (at_place k) (plug_inputs channels row c dir plug) ≡ count_by (is_at Input k) (side_places dir plug)
count-side channels row k c Inward plug =
    let a = count-cons (at_place k) (pin_number plug.valid.place (truth (sink_valid row c)))
    (map (λ (p : ℕ × Pin). pin_number p.1.place (shown_number (sink_valid row c) (content_at channels row.contents c) p.0))
    (enumerate_from 0 plug.contents)) in
    let b = count-two (is_at Input k) (Input, plug.valid.place) (Output, plug.ready.place) (map (λ (p : Pin).
    (Input, p.place)) plug.contents)
    in
    let e = count-enumerated (at_place k) (is_at Input k)
    (λ (p : ℕ × Pin). pin_number p.1.place (shown_number (sink_valid row c) (content_at channels row.contents c) p.0))
    (λ (p : Pin). (Input, p.place)) (λ n p. refl) 0 plug.contents in
    omega (arith, a, b, e)
count-side channels row k c Outward plug =
    let a = count-cons (at_place k) (pin_number plug.ready.place (truth (has row.readies c && has row.gates c))) [] in
    let b = count-two (is_at Input k) (Output, plug.valid.place) (Input, plug.ready.place) (map (λ (p : Pin).
    (Output, p.place)) plug.contents)
    in
    let e = count-none (is_at Input k) (λ (p : Pin). (Output, p.place)) (λ p. refl) plug.contents in
    omega (arith, a, b, e)

count-plugs : (channels : List Channel) (row : Row) (k c : ℕ) (xs : List Channel) (plugs : List Plug)
    → count_by (at_place k) (inputs_from channels row c xs plugs) ≡ count_by (is_at Input k) (plugs_places xs plugs)
count-plugs channels row k c [] plugs = refl
count-plugs channels row k c (x ∷ xs) [] = refl
count-plugs channels row k c (x ∷ xs) (plug ∷ plugs) =
    count-append (at_place k) (plug_inputs channels row c x.dir plug) (inputs_from channels row (c + 1) xs plugs)
    ∙ ap (λ n. n + count_by (at_place k) (inputs_from channels row (c + 1) xs plugs)) (count-side channels row k c x.dir plug)
    ∙ ap (λ n. count_by (is_at Input k) (side_places x.dir plug) + n) (count-plugs channels row k (c + 1) xs plugs)
    ∙ sym (count-append (is_at Input k) (side_places x.dir plug) (plugs_places xs plugs))

pub count-entered : (m : Map) (resets : Bool) (row : Row) (k : ℕ)
    → count_by (at_place k) (entered m resets row) ≡ count_by (is_at Input k) (places m)
count-entered m resets row k =
    let rs = option_to_list m.reset in
    let es = map (reset_input resets) rs in
    let ts = map tie_input m.ties in
    let xs = inputs_from m.channels row 0 m.channels m.plugs in
    let a = count-cons (at_place k) (pin_number m.clock.place 0) (es ++ (ts ++ xs)) in
    let b = count-append (at_place k) es (ts ++ xs) in
    let c = count-append (at_place k) ts xs in
    let d = count-cons (is_at Input k) (Input, m.clock.place) (reset_places rs ++ (tie_places m.ties ++ plugs_places m.channels m.plugs)) in
    let e = count-append (is_at Input k) (reset_places rs) (tie_places m.ties ++ plugs_places m.channels m.plugs) in
    let f = count-append (is_at Input k) (tie_places m.ties) (plugs_places m.channels m.plugs) in
    let r = count-maps (at_place k) (is_at Input k) (reset_input resets) (λ (r : Reset). (Input, r.pin.place)) (λ r. refl) rs in
    let t = count-maps (at_place k) (is_at Input k) tie_input (λ (t : Tie). (Input, t.pin.place)) (λ t. refl) m.ties in
    let p = count-plugs m.channels row k 0 m.channels m.plugs in
    omega (arith, a, b, c, d, e, f, r, t, p)

-- each input has its number
pub record Stands (k : ℕ) (entries : List PinNumber) : Type 0 where
  pub index : ℕ
  pub entry : PinNumber
  pub at : slice_get entries index ≡ Some entry
  pub place : entry.place ≡ k

pub stands : (d : Design) (m : Map) → IsMapOf d m → (resets : Bool) (row : Row) (k : ℕ) → k < length (input_limits d)
    → Stands k (entered m resets row)
stands d m is resets row k l =
    let one = count-entered m resets row k ∙ is.inputs k (let n = input-count d in omega (arith, n)) in
    let found = nth (at_place k) (entered m resets row) 0 (omega (arith, one)) in
    record { index = found.place; entry = found.item; at = found.is.at; place = eqb-true found.item.place k found.is.passes }

-- ---- one list at most
pub one-list : (d : Design) (m : Map) → IsMapOf d m → (resets : Bool) (a b : Row) → entered m resets a ≡ entered m resets b
    → (p q : List ℕ) → ArePins d m resets a p → ArePins d m resets b q → p ≡ q
one-list d m is resets a b same p q isp isq = ext_get_or 0 p q (isp.fit.long ∙ sym isq.fit.long) (λ k l.
    let s = stands d m is resets a k (let e = isp.fit.long in omega (arith, e)) in
    let first : get_or p s.entry.place 0 ≡ s.entry.number = all-at (λ (e : PinNumber). get_or p e.place 0 ≡ e.number)
    (entered m resets a) s.index s.entry isp.numbers s.at in
    let there : slice_get (entered m resets b) s.index ≡ Some s.entry = ap (λ es. slice_get es s.index) (sym same) ∙ s.at in
    let second : get_or q s.entry.place 0 ≡ s.entry.number = all-at (λ (e : PinNumber). get_or q e.place 0 ≡ e.number)
    (entered m resets b) s.index s.entry isq.numbers there in
    ap (λ i. get_or p i 0) (sym s.place) ∙ first ∙ sym second ∙ ap (λ i. get_or q i 0) s.place)

-- ---- one list at least
found-in : (b : Bool) (x rest y : ℕ) → (b ≡ true → x ≡ y) → (b ≡ false → rest ≡ y) → cond b x rest ≡ y
found-in true x rest y h k = h refl
found-in false x rest y h k = k refl

number-found : (es : List PinNumber) (i : ℕ) (e : PinNumber) → slice_get es i ≡ Some e → count_by (at_place e.place) es ≤ 1
    → number_for es e.place ≡ e.number
number-found [] i e at few = absurd (cc)
number-found (x ∷ xs) zero e at few =
    let same : x ≡ e = cc in
    found-in (x.place == e.place) x.number (number_for xs e.place) e.number (λ h. ap (λ (y : PinNumber). y.number) same)
    (λ h. absurd (eqb-false x.place e.place h (ap (λ (y : PinNumber). y.place) same)))
number-found (x ∷ xs) (suc i) e at few =
    let c = count-cons (at_place e.place) x xs in
    let l = nth-below (at_place e.place) xs (count_by (at_place e.place) (take i xs)) i e
    (record { at = at; passes = eq-eqb e.place e.place refl; before = refl }) in
    found-in (x.place == e.place) x.number (number_for xs e.place) e.number
    (λ h. let one : cond {A = ℕ} (x.place == e.place) 1 0 ≡ 1 = ap (λ b. cond {A = ℕ} b 1 0) h in absurd (omega (arith, c, l, one, few)))
    (λ h. number-found xs i e at (omega (arith, c, few)))

-- a number that fits the port at whose place it is entered
pub record FitsPort (d : Design) (e : PinNumber) : Type 0 where
  pub port : ℕ
  pub p : Port
  pub at : slice_get d.ports port ≡ Some p
  pub input : p.direction ≡ Input
  pub place : e.place ≡ count_by (λ (q : Port). same_direction Input q.direction) (take port d.ports)
  pub fits : e.number < 2 ^ p.width

pub fits-port : (d : Design) (width place number : ℕ) (pin : Pin) → IsPin d Input width pin → place ≡ pin.place → number < 2 ^ width
    → FitsPort d (pin_number place number)
fits-port d width place number pin is e l = record {
  port = is.port;
  p = is.p;
  at = is.at;
  input = is.direction_is;
  place = e ∙ is.place;
  fits = subst (λ w. number < 2 ^ w) (sym is.width_is) l;
}

flag-small : (b : Bool) → truth b < 2 ^ 1
flag-small true = omega arith
flag-small false = omega arith

contents-fit : (d : Design) (widths : List ℕ) (pins : List Pin) (n : ℕ) (number : ℕ → ℕ)
    → AllZip (λ width pin. IsPin d Input width pin) widths pins
    → ((i j : ℕ) → j ≡ n + i → number j < 2 ^ get_or widths i 0)
    → All (FitsPort d) (map (λ (p : ℕ × Pin). pin_number p.1.place (number p.0)) (enumerate_from n pins))
contents-fit d [] [] n number z small = All-nil (FitsPort d)
contents-fit d [] (p ∷ ps) n number z small = absurd z
contents-fit d (w ∷ ws) [] n number z small = absurd z
contents-fit d (w ∷ ws) (p ∷ ps) n number z small = All-cons (FitsPort d) (pin_number p.place (number n))
    (map (λ (q : ℕ × Pin). pin_number q.1.place (number q.0)) (enumerate_from (n + 1) ps))
    (fits-port d w p.place (number n) p z.0 refl (small 0 n (omega arith)))
    (contents-fit d ws ps (n + 1) number z.1 (λ i j e. small (suc i) j (omega (arith, e))))

abbrev pub IsSide : Design → Dir → List ℕ → Plug → Type 0
IsSide d dir widths plug = IsPin d (source_side dir) 1 plug.valid × IsPin d (sink_side dir) 1 plug.ready
    × AllZip (λ width pin. IsPin d (source_side dir) width pin) widths plug.contents

side-fits : (d : Design) (channels : List Channel) (row : Row) (c : ℕ) (dir : Dir) (widths : List ℕ) (plug : Plug)
    → IsSide d dir widths plug
    → ((i : ℕ) → shown_number (sink_valid row c) (content_at channels row.contents c) i < 2 ^ get_or widths i 0)
    → All (FitsPort d) (plug_inputs channels row c dir plug)
side-fits d channels row c Inward widths plug is small = All-cons (FitsPort d) (pin_number plug.valid.place (truth (sink_valid row c)))
    (map (λ (p : ℕ × Pin). pin_number p.1.place (shown_number (sink_valid row c) (content_at channels row.contents c) p.0))
    (enumerate_from 0 plug.contents))
    (fits-port d 1 plug.valid.place (truth (sink_valid row c)) plug.valid is.0 refl (flag-small (sink_valid row c)))
    (contents-fit d widths plug.contents 0 (shown_number (sink_valid row c) (content_at channels row.contents c)) is.2
    (λ i j e. let same : i ≡ j = omega (arith, e) in
    subst (λ n. shown_number (sink_valid row c) (content_at channels row.contents c) n < 2 ^ get_or widths i 0) same (small i)))
side-fits d channels row c Outward widths plug is small =
    All-cons (FitsPort d) (pin_number plug.ready.place (truth (has row.readies c && has row.gates c))) []
    (fits-port d 1 plug.ready.place (truth (has row.readies c && has row.gates c)) plug.ready is.1 refl
    (flag-small (has row.readies c && has row.gates c))) (All-nil (FitsPort d))

plugs-fit : (d : Design) (channels : List Channel) (row : Row) (c : ℕ) (xs : List Channel) (plugs : List Plug) → AllZip (IsPlug d) xs plugs
    → ((i j : ℕ) (x : Channel) → slice_get xs i ≡ Some x → j ≡ c + i → (k : ℕ)
    → shown_number (sink_valid row j) (content_at channels row.contents j) k < 2 ^ get_or x.widths k 0)
    → All (FitsPort d) (inputs_from channels row c xs plugs)
plugs-fit d channels row c [] [] z small = All-nil (FitsPort d)
plugs-fit d channels row c [] (p ∷ ps) z small = absurd z
plugs-fit d channels row c (x ∷ xs) [] z small = absurd z
plugs-fit d channels row c (x ∷ xs) (p ∷ ps) z small = All-append (FitsPort d) (plug_inputs channels row c x.dir p)
    (inputs_from channels row (c + 1) xs ps)
    (side-fits d channels row c x.dir x.widths p (z.0.valid, (z.0.ready), (z.0.contents)) (small 0 c x refl (omega arith)))
    (plugs-fit d channels row (c + 1) xs ps z.1 (λ i j y at e. small (suc i) j y at (omega (arith, e))))

resets-fit : (d : Design) (resets : Bool) (o : Option Reset) → IfSome o (λ (r : Reset). IsPin d Input 1 r.pin)
    → All (FitsPort d) (map (reset_input resets) (option_to_list o))
resets-fit d resets None is = All-nil (FitsPort d)
resets-fit d resets (Some r) is = All-cons (FitsPort d) (reset_input resets r) []
    (fits-port d 1 r.pin.place (truth (cond resets r.active (not r.active))) r.pin is refl (flag-small (cond resets r.active
    (not r.active))))
    (All-nil (FitsPort d))

-- all but the clock
abbrev pub entered_behind : Map → Bool → Row → List PinNumber
entered_behind m resets row =
    map (reset_input resets) (option_to_list m.reset) ++ (map tie_input m.ties ++ inputs_from m.channels row 0 m.channels m.plugs)

entered-fit : (d : Design) (m : Map) → IsMapOf d m → (resets : Bool) (row : Row) → AreSmall m.channels row
    → All (FitsPort d) (entered_behind m resets row)
entered-fit d m is resets row small =
    All-append (FitsPort d) (map (reset_input resets) (option_to_list m.reset))
    (map tie_input m.ties ++ inputs_from m.channels row 0 m.channels m.plugs)
    (resets-fit d resets m.reset is.reset)
    (All-append (FitsPort d) (map tie_input m.ties) (inputs_from m.channels row 0 m.channels m.plugs)
    (All-map (FitsPort d) tie_input m.ties (All-weaker (IsTie d) (λ (t : Tie). FitsPort d (tie_input t))
    (λ t h. fits-port d t.width t.pin.place t.number t.pin h.pin refl h.fits) m.ties (All-from_recursion (IsTie d) m.ties is.ties)))
    (plugs-fit d m.channels row 0 m.channels m.plugs is.plugs
    (λ i j x at e k. let same : i ≡ j = omega (arith, e) in
    subst (λ n. shown_number (sink_valid row n) (content_at m.channels row.contents n) k < 2 ^ get_or x.widths k 0) same (small i x at k))))

-- the limit at a port
limit-at : (d : Design) (k : ℕ) (p : Port) → slice_get d.ports k ≡ Some p → p.direction ≡ Input
    → get_or (input_limits d) (count_by (λ (q : Port). same_direction Input q.direction) (take k d.ports)) 0
    ≡ cond (is_clock d.clock k) 1 (2 ^ p.width)
limit-at d k p at way =
    let e : length (port_limits d) ≡ length d.ports =
    length-map (enumerate_from 0 d.ports) (λ (q : ℕ × Port). cond (is_clock d.clock q.0) 1 (2 ^ q.1.width))
    ∙ length-enumerate_from 0 d.ports in
    pin-at Input d.ports (port_limits d) k p at (ways Input p way) (omega (arith, e))
    ∙ enumerated (λ (q : ℕ × Port). cond (is_clock d.clock q.0) 1 (2 ^ q.1.width)) 0 k k d.ports p at (omega arith)

below-limit : (b : Bool) (number power : ℕ) → (b ≡ true → ⊥) → number < power → number < cond b 1 power
below-limit true number power h l = absurd (h refl)
below-limit false number power h l = l

zero-below : (b : Bool) (w : ℕ) → 0 < cond b 1 (2 ^ w)
zero-below true w = omega arith
zero-below false w = pow_pos w

clocked : (o : Option ℕ) (k : ℕ) → is_clock o k ≡ true → o ≡ Some k
clocked None k h = absurd (false≢true h)
clocked (Some c) k h = ap Some (eqb-true c k h)

place-below : (d : Design) (e : PinNumber) → FitsPort d e → e.place < length (input_limits d)
place-below d e f =
    let l = count-below (λ (q : Port). same_direction Input q.direction) d.ports f.port f.p f.at (ways Input f.p f.input) in
    let n = input-count d in let p = f.place in omega (arith, l, n, p)

-- what is entered behind the clock isn't at the clock
apart : (d : Design) (m : Map) → IsMapOf d m → (resets : Bool) (row : Row) (i : ℕ) (e : PinNumber)
    → slice_get (entered_behind m resets row) i ≡ Some e → e.place < length (input_limits d) → e.place ≡ m.clock.place → ⊥
apart d m is resets row i e at l same =
    let one = count-entered m resets row e.place ∙ is.inputs e.place (let n = input-count d in omega (arith, n, l)) in
    let c = count-cons (at_place e.place) (pin_number m.clock.place 0) (entered_behind m resets row) in
    let b = nth-below (at_place e.place) (entered_behind m resets row) (count_by (at_place e.place) (take i
    (entered_behind m resets row))) i e
    (record { at = at; passes = eq-eqb e.place e.place refl; before = refl }) in
    let t : cond {A = ℕ} (m.clock.place == e.place) 1 0 ≡ 1 = ap (λ b. cond {A = ℕ} b 1 0) (eq-eqb m.clock.place e.place (sym same)) in
    absurd (omega (arith, one, c, b, t))

-- each entered number is below its limit, and its place is an input
pub record Enters (d : Design) (e : PinNumber) : Type 0 where
  pub input : e.place < length (input_limits d)
  pub below : e.number < get_or (input_limits d) e.place 0

enters-behind : (d : Design) (m : Map) → IsMapOf d m → (resets : Bool) (row : Row) → AreSmall m.channels row → (i : ℕ) (e : PinNumber)
    → slice_get (entered_behind m resets row) i ≡ Some e → Enters d e
enters-behind d m is resets row small i e at =
    let f = all-at (FitsPort d) (entered_behind m resets row) i e (entered-fit d m is resets row small) at in
    let l = place-below d e f in
    record {
      input = l;
      below = subst (λ n. e.number < n) (sym (ap (λ k. get_or (input_limits d) k 0) f.place ∙ limit-at d f.port f.p f.at f.input))
          (below-limit (is_clock d.clock f.port) e.number (2 ^ f.p.width)
          (λ h. apart d m is resets row i e at l (f.place ∙ ap (λ k. count_by (λ (q : Port). same_direction Input q.direction)
          (take k d.ports))
          (is.own_clock f.port (clocked d.clock f.port h)) ∙ sym is.clock.place)) f.fits);
    }

enters-clock : (d : Design) (m : Map) → IsMapOf d m → Enters d (pin_number m.clock.place 0)
enters-clock d m is =
    let f = fits-port d 1 m.clock.place 0 m.clock is.clock refl (omega arith) in
    record {
      input = place-below d (pin_number m.clock.place 0) f;
      below = subst (λ n. 0 < n) (sym (ap (λ k. get_or (input_limits d) k 0) f.place ∙ limit-at d f.port f.p f.at f.input))
          (zero-below (is_clock d.clock f.port) f.p.width);
    }

pub enters : (d : Design) (m : Map) → IsMapOf d m → (resets : Bool) (row : Row) → AreSmall m.channels row → (i : ℕ) (e : PinNumber)
    → slice_get (entered m resets row) i ≡ Some e → Enters d e
enters d m is resets row small zero e at =
    let same : pin_number m.clock.place 0 ≡ e = cc in
    subst (Enters d) same (enters-clock d m is)
enters d m is resets row small (suc i) e at = enters-behind d m is resets row small i e at

-- the numbers by place are the pins
pub are-pins : (d : Design) (m : Map) → IsMapOf d m → (resets : Bool) (row : Row) → AreSmall m.channels row
    → ArePins d m resets row (map (number_for (entered m resets row)) (range_with_len 0 (length (input_limits d))))
are-pins d m is resets row small =
    let es = entered m resets row in
    let n = length (input_limits d) in
    let ps = map (number_for es) (range_with_len 0 n) in
    let long : length ps ≡ n = length-map-range_with_len (number_for es) 0 n in
    let here : (i : ℕ) (e : PinNumber) → slice_get es i ≡ Some e → get_or ps e.place 0 ≡ e.number = λ i e at.
    (let x = enters d m is resets row small i e at in
    let one = count-entered m resets row e.place ∙ is.inputs e.place (let c = input-count d in let l = x.input in omega (arith, c, l)) in
    get_or-map-range_with_len (number_for es) 0 n e.place e.place 0 x.input (omega arith)
    ∙ number-found es i e at (omega (arith, one))) in
    record {
      fit = record {
        long = long;
        each = λ j l.
            let s = stands d m is resets row j (omega (arith, l, long)) in
            let x = enters d m is resets row small s.index s.entry s.at in
            let is-number : get_or ps j 0 ≡ s.entry.number = ap (λ k. get_or ps k 0) (sym s.place) ∙ here s.index s.entry s.at in
            let limit : get_or (input_limits d) s.entry.place 0
            ≡ get_or (input_limits d) j 0 = ap (λ k. get_or (input_limits d) k 0) s.place in
            let below = x.below in
            omega (arith, is-number, limit, below);
      };
      numbers = λ k e l.
          here k (get_or es k e) (slice_get-get_or es k e l);
    }

-- ---- as many entered numbers as inputs
abbrev total : List PinNumber → ℕ → ℕ
total es zero = 0
total es (suc k) = total es k + count_by (at_place k) es

total-ones : (es : List PinNumber) (n : ℕ) → ((k : ℕ) → k < n → count_by (at_place k) es ≡ 1) → total es n ≡ n
total-ones es zero h = refl
total-ones es (suc k) h = let a = total-ones es k (λ j l. h j (omega arith)) in let b = h k (omega arith) in omega (arith, a, b)

total-nil : (n : ℕ) → total [] n ≡ 0
total-nil zero = refl
total-nil (suc k) = let a = total-nil k in omega (arith, a)

one-place : (place k : ℕ) → cond {A = ℕ} (ltb place k) 1 0 + cond {A = ℕ} (place == k) 1 0 ≡ cond {A = ℕ} (ltb place (suc k)) 1 0
one-place place k = ⊎_elim
    (λ (e : place ≡ k).
    (let a : cond {A = ℕ} (ltb place k) 1 0 ≡ 0 = ap (λ b. cond {A = ℕ} b 1 0) (le-ltb place k (omega arith)) in
    let b : cond {A = ℕ} (place == k) 1 0 ≡ 1 = ap (λ b. cond {A = ℕ} b 1 0) (eq-eqb place k e) in
    let c : cond {A = ℕ} (ltb place (suc k)) 1 0 ≡ 1 = ap (λ b. cond {A = ℕ} b 1 0) (lt-ltb place (suc k) (omega arith)) in
    omega (arith, a, b, c)))
    (λ (ne : (place < k) ⊎ (k < place)). ⊎_elim
    (λ (l : place < k).
    (let a : cond {A = ℕ} (ltb place k) 1 0 ≡ 1 = ap (λ b. cond {A = ℕ} b 1 0) (lt-ltb place k l) in
    let b : cond {A = ℕ} (place == k) 1 0 ≡ 0 = ap (λ b. cond {A = ℕ} b 1 0) (ne_eqb place k (λ e. absurd (omega arith))) in
    let c : cond {A = ℕ} (ltb place (suc k)) 1 0 ≡ 1 = ap (λ b. cond {A = ℕ} b 1 0) (lt-ltb place (suc k) (omega arith)) in
    omega (arith, a, b, c)))
    (λ (l : k < place).
    (let a : cond {A = ℕ} (ltb place k) 1 0 ≡ 0 = ap (λ b. cond {A = ℕ} b 1 0) (le-ltb place k (omega arith)) in
    let b : cond {A = ℕ} (place == k) 1 0 ≡ 0 = ap (λ b. cond {A = ℕ} b 1 0) (ne_eqb place k (λ e. absurd (omega arith))) in
    let c : cond {A = ℕ} (ltb place (suc k)) 1 0 ≡ 0 = ap (λ b. cond {A = ℕ} b 1 0) (le-ltb place (suc k) (omega arith)) in
    omega (arith, a, b, c)))
    ne)
    (cases_order place k)

total-cons : (e : PinNumber) (es : List PinNumber) (n : ℕ) → total (e ∷ es) n ≡ total es n + cond {A = ℕ} (ltb e.place n) 1 0
total-cons e es zero =
    let z : cond {A = ℕ} (ltb e.place 0) 1 0 ≡ 0 = ap (λ b. cond {A = ℕ} b 1 0) (le-ltb e.place 0 (omega arith)) in omega (arith, z)
total-cons e es (suc k) =
    let a = total-cons e es k in
    let b = count-cons (at_place k) e es in
    let c = one-place e.place k in
    omega (arith, a, b, c)

total-length : (n : ℕ) (es : List PinNumber) → ((i : ℕ) (e : PinNumber) → slice_get es i ≡ Some e → e.place < n) → total es n ≡ length es
total-length n [] h = total-nil n
total-length n (e ∷ es) h =
    let a = total-cons e es n in
    let b = total-length n es (λ i x at. h (suc i) x at) in
    let c : cond {A = ℕ} (ltb e.place n) 1 0 ≡ 1 = ap (λ b. cond {A = ℕ} b 1 0) (lt-ltb e.place n (h 0 e refl)) in
    omega (arith, a, b, c)

pub length-entered : (d : Design) (m : Map) → IsMapOf d m → (resets : Bool) (row : Row) → AreSmall m.channels row
    → length (entered m resets row) ≡ length (input_limits d)
length-entered d m is resets row small =
    let n = length (input_limits d) in
    let es = entered m resets row in
    sym (total-length n es (λ i e at. (enters d m is resets row small i e at).input))
    ∙ total-ones es n (λ k l. count-entered m resets row k ∙ is.inputs k (let c = input-count d in omega (arith, c, l)))

-- ---- output pins are there
pub output-below : (d : Design) (width : ℕ) (pin : Pin) → IsPin d Output width pin → pin.place < output_count d
output-below d width pin is =
    let l = count-below (λ (q : Port). same_direction Output q.direction) d.ports is.port is.p is.at (ways Output is.p is.direction_is) in
    let p = is.place in omega (arith, l, p)
