-- The numbers at all input pins: what stands there between cycles, in a reset cycle and in a cycle.
use Rattle.std.proofs.Common.{◌≡◌, ℕ, zero, suc, ◌+◌, ◌<◌, ◌≤◌, ◌^◌, ◌&&◌, Bool, false, cond, List, [], ◌∷◌, ◌++◌}
use Rattle.std.proofs.Common.{Some, All, length, take, map, replicate, get_or, slice_get, count_by}
use Rattle.std.proofs.Common.{refl, ap, sym, subst, ◌∙◌, arith}
use Rattle.std.specs.List.{AllZip, enumerate_from}
use Rattle.std.specs.Option.{option_to_list, IfSome}
use Rattle.std.proofs.lemmas.Bool.{eq-eqb, cond-false}
use Rattle.std.proofs.lemmas.List.{take_at, drop_at, length-map, length-append, length-replicate}
use Rattle.std.proofs.lemmas.List.Elements.{All-cons, All-append, All-nil, All-head, All-tail, All-take, All-drop, All-from_recursion}
use Rattle.std.proofs.lemmas.List.Elements.{All-weaker}
use Rattle.std.proofs.lemmas.List.FromFn.{length-enumerate_from}
use Rattle.std.proofs.lemmas.Option.{slice_get-get_or, same_Some, IfSome_then}
use Rattle.std.proofs.lemmas.Nat.{pow_pos}
use Rattle.run_model.specs.vidi_bits.Number.{truth, has}
use Rattle.run_model.proofs.vidi_bits_lemmas.BitLemmas.{has-above}
use Rattle.run_model.specs.trace_model.declared.channel.Channel.{Channel}
use Rattle.run_model.specs.trace_model.declared.channel.Dir.{Dir}
use Rattle.run_model.specs.trace_model.declared.channel.Dir.TheVariants.{Inward, Outward}
use Rattle.run_model.specs.trace_model.declared.row.Offers.{Offers}
use Rattle.run_model.specs.trace_model.declared.row.Row.{Row}
use Rattle.run_model.specs.trace_model.Row.{content_at, sink_valid, AreOffers}
use Rattle.run_model.proofs.trace_model_lemmas.CountingLemmas.{count-cons, nth-below}
use Rattle.net_design.specs.declared.design.Port.{Port}
use Rattle.net_design.specs.declared.design.Direction.{Direction}
use Rattle.net_design.specs.declared.design.Direction.TheVariants.{Input, Output}
use Rattle.net_design.specs.declared.design.Design.{Design}
use Rattle.net_design.specs.Pins.{input_limits, output_count}
use Rattle.net_design.specs.Settled.{same_direction}
use Rattle.run_model.specs.chan_map.declared.pins.Map.{Map}
use Rattle.run_model.specs.chan_map.declared.pins.Pin.{Pin}
use Rattle.run_model.specs.chan_map.declared.pins.Plug.{Plug}
use Rattle.run_model.specs.chan_map.declared.pins.Reset.{Reset}
use Rattle.run_model.specs.chan_map.declared.pins.Tie.{Tie}
use Rattle.run_model.specs.chan_map.Bound.{IsPin, IsPlug, IsTie}
use Rattle.run_model.specs.Building.{AreSmall}
use Rattle.run_model.specs.declared.pins.PinNumber.{PinNumber}
use Rattle.run_model.specs.MapOf.{IsMapOf}
use Rattle.run_model.specs.Pins.{pin_number, shown_number, plug_inputs, inputs_from, reset_input, tie_input, entered, silent, ArePins}
use Rattle.run_model.proofs.PinLemmas.{all-at, at_place, count-append, count-entered, enters, input-count, length-entered, output-below}
use Rattle.run_model.proofs.PinLemmas.{stands, ways, IsSide}
use Rattle.run_model.proofs.RowParts.{has-plug, small-row}
use Rattle.chan_monitor.specs.Around.{AreHeld}
use Rattle.chan_monitor.specs.Entering.{write, held_inputs, offered, input_count, inputs_count, IsPlugWithin, AreTiesWithin, ArePlugsWithin}
use Rattle.chan_monitor.specs.Showing.{IsPlugShown, ArePlugsShown}
use Rattle.chan_monitor.proofs.Writing.{write-past, write-at, length-write}

-- ---- lists
front : {X : Type 0} (P : X → Type 0) (xs ys : List X) → All P (xs ++ ys) → All P xs
front P xs ys h = subst (All P) (take_at xs ys (length xs) refl) (All-take P (length xs) (xs ++ ys) h)

back : {X : Type 0} (P : X → Type 0) (xs ys : List X) → All P (xs ++ ys) → All P ys
back P xs ys h = subst (All P) (drop_at xs ys (length xs) refl) (All-drop P (length xs) (xs ++ ys) h)

-- ---- what stands at the pins
abbrev Holds : List ℕ → PinNumber → Type 0
Holds pins e = get_or pins e.place 0 ≡ e.number

abbrev Within : ℕ → PinNumber → Type 0
Within n e = e.place < n

-- numbers at pins that nothing is written to stay
kept : (written others : List PinNumber) (pins : List ℕ) (n : ℕ)
    → ((k : ℕ) → k < n → count_by (at_place k) others + count_by (at_place k) written ≤ 1) → All (Within n) others → All (Holds pins) others
    → All (Holds (write pins written)) others
kept written others pins n few within holds k x l =
    let e = get_or others k x in
    let own = nth-below (at_place e.place) others (count_by (at_place e.place) (take k others)) k e
    (record { at = slice_get-get_or others k x l; passes = eq-eqb e.place e.place refl; before = refl }) in
    let f = few e.place (within k x l) in
    write-past written pins e.place (omega (arith, own, f)) ∙ holds k x l

-- written numbers stand there
put : (written : List PinNumber) (pins : List ℕ) (n : ℕ) → length pins ≡ n → ((k : ℕ) → k < n → count_by (at_place k) written ≤ 1)
    → All (Within n) written → All (Holds (write pins written)) written
put written pins n long few within k x l =
    let w = within k x l in
    write-at written pins k (get_or written k x) (slice_get-get_or written k x l) (omega (arith, w, long)) (few
    (get_or written k x).place w)

-- the numbers are those of a cycle's pins, so they fit
are-pins_from : (d : Design) (m : Map) → IsMapOf d m → (resets : Bool) (row : Row) → AreSmall m.channels row → (pins : List ℕ)
    → length pins ≡ length (input_limits d) → All (Holds pins) (entered m resets row) → ArePins d m resets row pins
are-pins_from d m is resets row small pins long numbers = record {
  fit = record {
    long = long;
    each = λ j l.
        let s = stands d m is resets row j (omega (arith, l, long)) in
        let x = enters d m is resets row small s.index s.entry s.at in
        let value : get_or pins s.entry.place 0 ≡ s.entry.number = all-at (Holds pins)
        (entered m resets row) s.index s.entry numbers s.at in
        let here : get_or pins j 0 ≡ s.entry.number = ap (λ k. get_or pins k 0) (sym s.place) ∙ value in
        let limit : get_or (input_limits d) s.entry.place 0 ≡ get_or (input_limits d) j 0 = ap (λ k. get_or (input_limits d) k 0) s.place in
        let below = x.below in
        omega (arith, here, limit, below);
  };
  numbers = numbers;
}

-- ---- the parts of what is entered
abbrev resets_in : Map → Bool → List PinNumber
resets_in m resets = map (reset_input resets) (option_to_list m.reset)

abbrev ties_in : Map → List PinNumber
ties_in m = map tie_input m.ties

abbrev channels_in : Map → Row → List PinNumber
channels_in m row = inputs_from m.channels row 0 m.channels m.plugs

abbrev clock_in : Map → PinNumber
clock_in m = pin_number m.clock.place 0

within-all : (d : Design) (m : Map) → IsMapOf d m → (resets : Bool) (row : Row) → AreSmall m.channels row
    → All (Within (length (input_limits d))) (entered m resets row)
within-all d m is resets row small k e l = (enters d m is resets row small k (get_or (entered m resets row) k e)
    (slice_get-get_or (entered m resets row) k e l)).input

-- each place is entered once
record Once (m : Map) (resets : Bool) (row : Row) (k : ℕ) : Type 0 where
  once : cond {A = ℕ} (at_place k (clock_in m)) 1 0 + (count_by (at_place k) (resets_in m resets) + (count_by (at_place k) (ties_in m)
      + count_by (at_place k) (channels_in m row))) ≡ 1

once-at : (d : Design) (m : Map) → IsMapOf d m → (resets : Bool) (row : Row) (k : ℕ) → k < length (input_limits d) → Once m resets row k
once-at d m is resets row k l = record {
  once =
      let one = count-entered m resets row k ∙ is.inputs k (let n = input-count d in omega (arith, n, l)) in
      let a = count-cons (at_place k) (clock_in m) (resets_in m resets ++ (ties_in m ++ channels_in m row)) in
      let b = count-append (at_place k) (resets_in m resets) (ties_in m ++ channels_in m row) in
      let c = count-append (at_place k) (ties_in m) (channels_in m row) in
      omega (arith, one, a, b, c);
}

-- ---- in a cycle
cycle-pins : (d : Design) (m : Map) → IsMapOf d m → (row : Row) → AreSmall m.channels row → (pins : List ℕ) → AreHeld d m pins
    → ArePins d m false row (write pins (channels_in m row))
cycle-pins d m is row small pins held =
    let n = length (input_limits d) in
    let c = clock_in m in
    let rs = resets_in m false in
    let ts = ties_in m in
    let xs = channels_in m row in
    let new = write pins xs in
    let all = within-all d m is false row small in
    let rest = All-tail (Within n) c (rs ++ (ts ++ xs)) all in
    let more = back (Within n) rs (ts ++ xs) rest in
    let old : All (Holds new) (c ∷ (rs ++ ts)) = kept xs (c ∷ (rs ++ ts)) pins n
    (λ k l. let o = (once-at d m is false row k l).once in
    let a = count-cons (at_place k) c (rs ++ ts) in
    let b = count-append (at_place k) rs ts in
    omega (arith, o, a, b))
    (All-cons (Within n) c (rs ++ ts) (All-head (Within n) c (rs ++ (ts ++ xs)) all)
    (All-append (Within n) rs ts (front (Within n) rs (ts ++ xs) rest) (front (Within n) ts xs more))) held.numbers in
    let fresh : All (Holds new) xs = put xs pins n held.long
    (λ k l. let o = (once-at d m is false row k l).once in omega (arith, o)) (back (Within n) ts xs more) in
    let behind = All-tail (Holds new) c (rs ++ ts) old in
    are-pins_from d m is false row small new (length-write pins xs ∙ held.long)
    (All-cons (Holds new) c (rs ++ (ts ++ xs)) (All-head (Holds new) c (rs ++ ts) old)
    (All-append (Holds new) rs (ts ++ xs) (front (Holds new) rs ts behind)
    (All-append (Holds new) ts xs (back (Holds new) rs ts behind) fresh)))

pub entered-pins : (d : Design) (m : Map) → IsMapOf d m → (row : Row) → AreSmall m.channels row → (pins new : List ℕ) → AreHeld d m pins
    → new ≡ write pins (channels_in m row) → ArePins d m false row new
entered-pins d m is row small pins new held e = subst (ArePins d m false row) (sym e) (cycle-pins d m is row small pins held)

-- what stands between cycles is part of it
pub held-from : (d : Design) (m : Map) (row : Row) (pins : List ℕ) → ArePins d m false row pins → AreHeld d m pins
held-from d m row pins are =
    let c = clock_in m in
    let rs = resets_in m false in
    let ts = ties_in m in
    let xs = channels_in m row in
    let rest = All-tail (Holds pins) c (rs ++ (ts ++ xs)) are.numbers in
    record {
      long = are.fit.long;
      numbers = All-cons (Holds pins) c (rs ++ ts) (All-head (Holds pins) c (rs ++ (ts ++ xs)) are.numbers)
          (All-append (Holds pins) rs ts (front (Holds pins) rs (ts ++ xs) rest)
          (front (Holds pins) ts xs (back (Holds pins) rs (ts ++ xs) rest)));
    }

-- ---- where nothing is up
off : (c : ℕ) → has 0 c ≡ false
off c = has-above 0 0 c (omega arith) (omega arith)

off-and : (b : Bool) (c : ℕ) → (has 0 c && b) ≡ false
off-and b c = ap (λ x. x && b) (off c)

pub silent-small : (channels : List Channel) → AreSmall channels silent
silent-small channels c x at i = subst (λ n. n < 2 ^ get_or x.widths i 0)
    (sym (cond-false (sink_valid silent c) (get_or (content_at channels silent.contents c) i 0) 0 (off-and (has 0 c) c)))
    (pow_pos (get_or x.widths i 0))

abbrev IsZero : PinNumber → Type 0
IsZero e = e.number ≡ 0

flag-off : (b : Bool) → b ≡ false → truth b ≡ 0
flag-off b e = ap truth e

shown-off : (b : Bool) (content : List ℕ) (i : ℕ) → b ≡ false → shown_number b content i ≡ 0
shown-off b content i e = ap (λ x. shown_number x content i) e

contents-zero : (b : Bool) (content : List ℕ) → b ≡ false → (n : ℕ) (pins : List Pin)
    → All IsZero (map (λ (p : ℕ × Pin). pin_number p.1.place (shown_number b content p.0)) (enumerate_from n pins))
contents-zero b content e n [] = All-nil IsZero
contents-zero b content e n (p ∷ ps) = All-cons IsZero (pin_number p.place (shown_number b content n))
    (map (λ (q : ℕ × Pin). pin_number q.1.place (shown_number b content q.0)) (enumerate_from (n + 1) ps))
    (shown-off b content n e) (contents-zero b content e (n + 1) ps)

plug-zero : (channels : List Channel) (c : ℕ) (dir : Dir) (plug : Plug) → All IsZero (plug_inputs channels silent c dir plug)
plug-zero channels c Inward plug =
    let b = sink_valid silent c in
    let content = content_at channels silent.contents c in
    All-cons IsZero (pin_number plug.valid.place (truth b))
    (map (λ (q : ℕ × Pin). pin_number q.1.place (shown_number b content q.0)) (enumerate_from 0 plug.contents))
    (flag-off b (off-and (has 0 c) c)) (contents-zero b content (off-and (has 0 c) c) 0 plug.contents)
plug-zero channels c Outward plug = All-cons IsZero (pin_number plug.ready.place (truth (has 0 c && has 0 c))) []
    (flag-off (has 0 c && has 0 c) (off-and (has 0 c) c)) (All-nil IsZero)

channels-zero : (channels : List Channel) (c : ℕ) (xs : List Channel) (plugs : List Plug)
    → All IsZero (inputs_from channels silent c xs plugs)
channels-zero channels c [] plugs = All-nil IsZero
channels-zero channels c (x ∷ xs) [] = All-nil IsZero
channels-zero channels c (x ∷ xs) (p ∷ ps) = All-append IsZero (plug_inputs channels silent c x.dir p)
    (inputs_from channels silent (c + 1) xs ps) (plug-zero channels c x.dir p) (channels-zero channels (c + 1) xs ps)

zero-at : (n k : ℕ) → get_or {A = ℕ} (replicate n 0) k 0 ≡ 0
zero-at zero k = refl
zero-at (suc n) zero = refl
zero-at (suc n) (suc k) = zero-at n k

zeros-hold : (n : ℕ) (es : List PinNumber) → All IsZero es → All (Holds (replicate n 0)) es
zeros-hold n es zeros = All-weaker IsZero (Holds (replicate n 0)) (λ (e : PinNumber) (z : e.number ≡ 0). zero-at n e.place ∙ sym z) es zeros

hold-pins : (d : Design) (m : Map) → IsMapOf d m → (resets : Bool) (n : ℕ) → n ≡ length (input_limits d)
    → ArePins d m resets silent (write (replicate n 0) (held_inputs m resets))
hold-pins d m is resets n count =
    let c = clock_in m in
    let rs = resets_in m resets in
    let ts = ties_in m in
    let xs = channels_in m silent in
    let zeros : List ℕ = replicate n 0 in
    let new = write zeros (rs ++ ts) in
    let small = silent-small m.channels in
    let all : All (Within n) (c ∷ (rs ++ (ts ++ xs))) = subst (λ k. All (Within k) (c ∷ (rs ++ (ts ++ xs)))) (sym count)
    (within-all d m is resets silent small) in
    let rest = All-tail (Within n) c (rs ++ (ts ++ xs)) all in
    let more = back (Within n) rs (ts ++ xs) rest in
    let long : length zeros ≡ n = length-replicate n 0 in
    let old : All (Holds new) (c ∷ xs) = kept (rs ++ ts) (c ∷ xs) zeros n
    (λ k l. let o = (once-at d m is resets silent k (omega (arith, l, count))).once in
    let a = count-cons (at_place k) c xs in
    let b = count-append (at_place k) rs ts in
    omega (arith, o, a, b))
    (All-cons (Within n) c xs (All-head (Within n) c (rs ++ (ts ++ xs)) all) (back (Within n) ts xs more))
    (zeros-hold n (c ∷ xs) (All-cons IsZero c xs refl (channels-zero m.channels 0 m.channels m.plugs))) in
    let fresh : All (Holds new) (rs ++ ts) = put (rs ++ ts) zeros n long
    (λ k l. let o = (once-at d m is resets silent k (omega (arith, l, count))).once in
    let b = count-append (at_place k) rs ts in
    omega (arith, o, b))
    (All-append (Within n) rs ts (front (Within n) rs (ts ++ xs) rest) (front (Within n) ts xs more)) in
    are-pins_from d m is resets silent small new (length-write zeros (rs ++ ts) ∙ long ∙ count)
    (All-cons (Holds new) c (rs ++ (ts ++ xs)) (All-head (Holds new) c xs old)
    (All-append (Holds new) rs (ts ++ xs) (front (Holds new) rs ts fresh)
    (All-append (Holds new) ts xs (back (Holds new) rs ts fresh) (All-tail (Holds new) c xs old))))

pub held-pins : (d : Design) (m : Map) → IsMapOf d m → (resets : Bool) (n : ℕ) (new : List ℕ) → n ≡ length (input_limits d)
    → new ≡ write (replicate n 0) (held_inputs m resets) → ArePins d m resets silent new
held-pins d m is resets n new count e = subst (ArePins d m resets silent) (sym e) (hold-pins d m is resets n count)

-- ---- places
input-below : (d : Design) (width : ℕ) (pin : Pin) → IsPin d Input width pin → pin.place < length (input_limits d)
input-below d width pin is =
    let l = nth-below (λ (q : Port). same_direction Input q.direction) d.ports
    (count_by (λ (q : Port). same_direction Input q.direction) (take is.port d.ports)) is.port is.p
    (record { at = is.at; passes = ways Input is.p is.direction_is; before = refl }) in
    let n = input-count d in let p = is.place in omega (arith, l, n, p)

pins-below : (d : Design) (way : Direction) (n : ℕ) → ((width : ℕ) (pin : Pin) → IsPin d way width pin → pin.place < n)
    → (widths : List ℕ) (pins : List Pin) → AllZip (λ width pin. IsPin d way width pin) widths pins
    → All (λ (p : Pin). p.place < n) pins × (length pins ≡ length widths)
pins-below d way n below [] [] z = (All-nil (λ (p : Pin). p.place < n), refl)
pins-below d way n below [] (p ∷ ps) z = absurd z
pins-below d way n below (w ∷ ws) [] z = absurd z
pins-below d way n below (w ∷ ws) (p ∷ ps) z =
    let more = pins-below d way n below ws ps z.1 in (
      All-cons (λ (q : Pin). q.place < n) p ps (below w p z.0) more.0,
      let e = more.1 in let s : suc (length ps)
          ≡ suc (length ws) = omega (arith, e) in s,
    )

side-within : (d : Design) (dir : Dir) (widths : List ℕ) (plug : Plug) → IsSide d dir widths plug
    → IsPlugWithin (length (input_limits d)) dir plug × (length plug.contents ≡ length widths)
side-within d Inward widths plug is =
    let c = pins-below d Input (length (input_limits d)) (input-below d) widths plug.contents is.2 in
    ((input-below d 1 plug.valid is.0, c.0), c.1)
side-within d Outward widths plug is =
    let c = pins-below d Output (output_count d) (output-below d) widths plug.contents is.2 in (input-below d 1 plug.ready is.1, c.1)

side-shown : (d : Design) (dir : Dir) (widths : List ℕ) (plug : Plug) → IsSide d dir widths plug
    → IsPlugShown (output_count d) dir plug × (length plug.contents ≡ length widths)
side-shown d Inward widths plug is =
    let c = pins-below d Input (length (input_limits d)) (input-below d) widths plug.contents is.2 in
    (output-below d 1 plug.ready is.1, c.1)
side-shown d Outward widths plug is =
    let c = pins-below d Output (output_count d) (output-below d) widths plug.contents is.2 in
    ((output-below d 1 plug.valid is.0, c.0), c.1)

plug-is : (d : Design) (m : Map) → IsMapOf d m → (c : ℕ) (x : Channel) (plug : Plug) → slice_get m.channels c ≡ Some x
    → slice_get m.plugs c ≡ Some plug → IsSide d x.dir x.widths plug
plug-is d m is c x plug at there =
    let h = has-plug d m is c x at in
    let same : h.plug ≡ plug = same_Some h.plug plug (sym h.at ∙ there) in
    let w : IsPlug d x plug = subst (IsPlug d x) same h.is in
    (w.valid, (w.ready), (w.contents))

pub many-plugs : (d : Design) (m : Map) → IsMapOf d m → length m.plugs ≡ length m.channels
many-plugs d m is = same-length m.channels m.plugs is.plugs
  where
    same-length : (xs : List Channel) (ps : List Plug) → AllZip (IsPlug d) xs ps → length ps ≡ length xs
    same-length [] [] z = refl
    same-length [] (p ∷ ps) z = absurd z
    same-length (x ∷ xs) [] z = absurd z
    same-length (x ∷ xs) (p ∷ ps) z = let e = same-length xs ps z.1 in omega (arith, e)

pub plugs-within : (d : Design) (m : Map) → IsMapOf d m → (n : ℕ) → n ≡ length (input_limits d) → ArePlugsWithin n m.channels m.plugs
plugs-within d m is n e = subst (λ k. ArePlugsWithin k m.channels m.plugs) (sym e) (record {
  many = many-plugs d m is;
  each = λ c x plug at there. side-within d x.dir x.widths plug (plug-is d m is c x plug at there);
})

pub plugs-shown : (d : Design) (m : Map) → IsMapOf d m → ArePlugsShown (output_count d) m.channels m.plugs
plugs-shown d m is = record {
  many = many-plugs d m is;
  each = λ c x plug at there. side-shown d x.dir x.widths plug (plug-is d m is c x plug at there);
}

pub ties-within : (d : Design) (m : Map) → IsMapOf d m → (n : ℕ) → n ≡ length (input_limits d) → AreTiesWithin n m.ties
ties-within d m is n e = subst (λ k. AreTiesWithin k m.ties) (sym e)
    (All-weaker (IsTie d) (λ (t : Tie). t.pin.place < length (input_limits d)) (λ (t : Tie)
    (h : IsTie d t). input-below d t.width t.pin h.pin)
    m.ties (All-from_recursion (IsTie d) m.ties is.ties))

pub reset-within : (d : Design) (m : Map) → IsMapOf d m → (n : ℕ) → n ≡ length (input_limits d)
    → IfSome m.reset (λ (r : Reset). r.pin.place < n)
reset-within d m is n e = IfSome_then m.reset is.reset
    (λ (r : Reset) (h : IsPin d Input 1 r.pin). let l = input-below d 1 r.pin h in let z : r.pin.place < n = omega (arith, l, e) in z)

-- ---- their number
length-plug : (channels : List Channel) (row : Row) (c : ℕ) (dir : Dir) (plug : Plug) → length (plug_inputs channels row c dir plug)
    ≡ input_count dir plug
length-plug channels row c Inward plug =
    let b = sink_valid row c in
    let content = content_at channels row.contents c in
    let e = length-map (enumerate_from 0 plug.contents) (λ (q : ℕ × Pin). pin_number q.1.place (shown_number b content q.0)) in
    let f = length-enumerate_from 0 plug.contents in
    omega (arith, e, f)
length-plug channels row c Outward plug = refl

length-plugs : (channels : List Channel) (row : Row) (c : ℕ) (xs : List Channel) (plugs : List Plug)
    → length (inputs_from channels row c xs plugs) ≡ inputs_count xs plugs
length-plugs channels row c [] plugs = refl
length-plugs channels row c (x ∷ xs) [] = refl
length-plugs channels row c (x ∷ xs) (p ∷ ps) =
    length-append (plug_inputs channels row c x.dir p) (inputs_from channels row (c + 1) xs ps)
    ∙ ap (λ n. n + length (inputs_from channels row (c + 1) xs ps)) (length-plug channels row c x.dir p)
    ∙ ap (λ n. input_count x.dir p + n) (length-plugs channels row (c + 1) xs ps)

pub length-entered_parts : (m : Map) (row : Row) → length (entered m false row)
    ≡ 1 + (length (option_to_list m.reset) + (length m.ties + inputs_count m.channels m.plugs))
length-entered_parts m row =
    let a = length-append (resets_in m false) (ties_in m ++ channels_in m row) in
    let b = length-append (ties_in m) (channels_in m row) in
    let r = length-map (option_to_list m.reset) (reset_input false) in
    let t = length-map m.ties tie_input in
    let x = length-plugs m.channels row 0 m.channels m.plugs in
    omega (arith, a, b, r, t, x)

pub pins-many : (d : Design) (m : Map) → IsMapOf d m → length (entered m false silent) ≡ length (input_limits d)
pins-many d m is = length-entered d m is false silent (silent-small m.channels)

-- ---- the offers as a row
pub offered-small : (channels : List Channel) (offers : Offers) (gates : ℕ) → AreOffers channels offers → gates < 2 ^ length channels
    → AreSmall channels (offered gates offers)
offered-small channels offers gates are l = small-row channels (offered gates offers) (record {
  gates = l;
  valids = are.valids;
  readies = are.readies;
  starts = pow_pos (length channels);
  ends = pow_pos (length channels);
  contents = are.contents;
})

more-zeros : (before after : List ℕ) (n : ℕ) → after ≡ before ++ replicate n 0 → length after ≡ length before + n
more-zeros before after n e = ap length e ∙ length-append before (replicate n 0) ∙ ap (λ k. length before + k) (length-replicate n 0)

pub pins-made : (m : Map) (first second third fourth : List ℕ) (resets ties many : ℕ) → first ≡ [] → second ≡ first ++ replicate 1 0
    → third ≡ second ++ replicate resets 0 → fourth ≡ third ++ replicate ties 0 → resets ≡ length (option_to_list m.reset)
    → ties ≡ length m.ties → many ≡ length fourth + inputs_count m.channels m.plugs → many ≡ length (entered m false silent)
pins-made m first second third fourth resets ties many a b c d e f g =
    let none : length first ≡ 0 = ap length a in
    let s = more-zeros first second 1 b in
    let t = more-zeros second third resets c in
    let u = more-zeros third fourth ties d in
    let l = length-entered_parts m silent in
    omega (arith, none, s, t, u, e, f, g, l)
