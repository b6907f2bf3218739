-- Where the numbers of a channel begin, and the entries of pins one after the other.
use Rattle.std.proofs.Common.{◌≡◌, ℕ, zero, suc, ◌+◌, ◌*◌, ◌<◌, ◌≤◌, List}
use Rattle.std.proofs.Common.{[], ◌∷◌, ◌++◌, Option, All, length, take, drop, get_or, slice_get}
use Rattle.std.proofs.Common.{Bool, true, false, cond, subst, map, refl, ap, sym, ◌∙◌, arith}
use Rattle.std.specs.List.{range_with_len}
use Rattle.std.proofs.lemmas.List.{append-nil, length-append, drop_more, drop_all}
use Rattle.std.proofs.lemmas.List.Concat.{flat_map-append}
use Rattle.std.proofs.lemmas.List.Elements.{All-head, All-tail}
use Rattle.std.proofs.lemmas.List.FromFn.{map-range_with_len_more}
use Rattle.run_model.specs.vidi_bits.Number.{has}
use Rattle.run_model.specs.trace_model.declared.channel.Channel.{Channel}
use Rattle.run_model.specs.trace_model.declared.packet.TheConstants.{MOST_CHANNELS}
use Rattle.run_model.specs.trace_model.declared.row.Row.{Row}
use Rattle.run_model.specs.trace_model.Channel.{IsChannel, IsTable}
use Rattle.run_model.specs.trace_model.Packet.{widths_of, widths_under}
use Rattle.run_model.proofs.trace_model_lemmas.ContentsLemmas.{widths-suc}
use Rattle.run_model.specs.trace_model.Row.{all_widths}
use Rattle.run_model.proofs.trace_model_lemmas.CountingLemmas.{take-suc_get}
use Rattle.run_model.specs.chan_map.declared.pins.Plug.{Plug}
use Rattle.run_model.specs.declared.pins.PinNumber.{PinNumber}
use Rattle.net_design.specs.declared.design.Design.{Design}
use Rattle.run_model.specs.chan_map.declared.pins.Map.{Map}
use Rattle.run_model.specs.Building.{number_for, AreSmall}
use Rattle.run_model.specs.MapOf.{IsMapOf}
use Rattle.run_model.specs.Pins.{plug_inputs, inputs_from, entered, ArePins}
use Rattle.run_model.proofs.PinLemmas.{all-at, are-pins, length-entered}
use Rattle.run_model.proofs.RowParts.{channel-at}

pub first-suc : (cs : List Channel) (i : ℕ) → i < length cs
    → length (all_widths (take (i + 1) cs)) ≡ length (all_widths (take i cs)) + length (widths_of (slice_get cs i))
first-suc cs i l =
    let x = channel-at cs i l in
    let s : i + 1 ≡ suc i = omega arith in
    ap (λ n. length (all_widths (take n cs))) s
    ∙ ap (λ xs. length (all_widths xs)) (take-suc_get cs i x.0 x.1)
    ∙ ap length (flat_map-append (λ (d : Channel). d.widths) (take i cs) (x.0 ∷ []))
    ∙ length-append (all_widths (take i cs)) (x.0.widths ++ [])
    ∙ ap (λ ws. length (all_widths (take i cs)) + length ws) (append-nil x.0.widths)
    ∙ ap (λ (o : Option Channel). length (all_widths (take i cs)) + length (widths_of o)) (sym x.1)

few-in : (cs : List Channel) → All IsChannel cs → (i : ℕ) → length (all_widths (take i cs)) ≤ 16 * i
few-in cs all zero = omega arith
few-in [] all (suc i) = omega arith
few-in (x ∷ xs) all (suc i) =
    let head = (All-head IsChannel x xs all).ports in
    let tail = few-in xs (All-tail IsChannel x xs all) i in
    omega (arith, head, tail, length-append x.widths (all_widths (take i xs)))

pub few-ports : (cs : List Channel) → IsTable cs → (i : ℕ) → i < length cs
    → length (all_widths (take i cs)) + length (widths_of (slice_get cs i)) ≤ 16 * MOST_CHANNELS
few-ports cs t i l =
    let few = t.few in
    let a = few-in cs t.each (i + 1) in
    omega (arith, a, few, first-suc cs i l)

-- one plug more
inputs-cons : (channels : List Channel) (row : Row) (c : ℕ) (x : Channel) (xs : List Channel) (plug : Plug) (plugs : List Plug)
    → inputs_from channels row c (x ∷ xs) (plug ∷ plugs) ≡ plug_inputs channels row c x.dir plug ++ inputs_from channels row
    (c + 1) xs plugs
inputs-cons channels row c x xs plug plugs = refl

pub inputs-step : (channels : List Channel) (row : Row) (c : ℕ) (xs : List Channel) (plugs : List Plug) (x : Channel) (plug : Plug)
    → c < length xs → c < length plugs → x ≡ get_or xs c x → plug ≡ get_or plugs c plug
    → inputs_from channels row c (drop c xs) (drop c plugs)
    ≡ plug_inputs channels row c x.dir plug ++ inputs_from channels row (c + 1) (drop (c + 1) xs) (drop (c + 1) plugs)
inputs-step channels row c xs plugs x plug l k e f =
    ap (λ ys. inputs_from channels row c ys (drop c plugs)) (drop_more xs c x l ∙ ap (λ y. y ∷ drop (c + 1) xs) (sym e))
    ∙ ap (λ ps. inputs_from channels row c (x ∷ drop (c + 1) xs) ps) (drop_more plugs c plug k ∙ ap (λ p. p ∷ drop (c + 1) plugs) (sym f))

pub inputs-end : (channels : List Channel) (row : Row) (c : ℕ) (xs : List Channel) (plugs : List Plug) → length xs ≤ c
    → inputs_from channels row c (drop c xs) (drop c plugs) ≡ []
inputs-end channels row c xs plugs l = ap (λ ys. inputs_from channels row c ys (drop c plugs)) (drop_all c xs l)

-- one place more
pub places-more : (f : ℕ → ℕ) (n : ℕ) (old new : List ℕ) (x : ℕ) → old ≡ map f (range_with_len 0 n) → new ≡ old ++ x ∷ [] → x ≡ f n
    → new ≡ map f (range_with_len 0 (n + 1))
places-more f n old new x was is y = is ∙ ap (λ xs. xs ++ x ∷ []) was ∙ ap (λ z. map f (range_with_len 0 n) ++ z ∷ []) y
    ∙ sym (map-range_with_len_more f 0 n n (omega arith))

-- the numbers by place are the pins of every design whose map it is
pub made-pins : (m : Map) (resets : Bool) (row : Row) → AreSmall m.channels row → (entries : List PinNumber) (pins : List ℕ)
    → entries ≡ entered m resets row → pins ≡ map (number_for entries) (range_with_len 0 (length entries)) → (d : Design) → IsMapOf d m
    → ArePins d m resets row pins
made-pins m resets row small entries pins e p d is =
    subst (ArePins d m resets row) (sym (p ∙ ap (λ es. map (number_for es) (range_with_len 0 (length es))) e
    ∙ ap (λ n. map (number_for (entered m resets row)) (range_with_len 0 n)) (length-entered d m is resets row small)))
    (are-pins d m is resets row small)

-- ---- the numbers of a packet
cond-length : (b : Bool) (ws : List ℕ) → length (cond b ws []) ≡ cond b (length ws) 0
cond-length true ws = refl
cond-length false ws = refl

pub under-suc : (mask : ℕ) (cs : List Channel) (i : ℕ) → i < length cs
    → length (widths_under mask (take (i + 1) cs))
    ≡ length (widths_under mask (take i cs)) + cond (has mask i) (length (widths_of (slice_get cs i))) 0
under-suc mask cs i l =
    let x = channel-at cs i l in
    let s : i + 1 ≡ suc i = omega arith in
    ap (λ n. length (widths_under mask (take n cs))) s
    ∙ ap length (widths-suc mask cs i x.0 x.1)
    ∙ length-append (widths_under mask (take i cs)) (cond (has mask i) x.0.widths [])
    ∙ ap (λ n. length (widths_under mask (take i cs)) + n) (cond-length (has mask i) x.0.widths)
    ∙ ap (λ (o : Option Channel). length (widths_under mask (take i cs)) + cond (has mask i) (length (widths_of o)) 0) (sym x.1)

cond-small : (b : Bool) (n : ℕ) → n ≤ 16 → cond b n 0 ≤ 16
cond-small true n l = l
cond-small false n l = omega arith

pub ports-small : (cs : List Channel) → IsTable cs → (mask i : ℕ) → i < length cs
    → cond (has mask i) (length (widths_of (slice_get cs i))) 0 ≤ 16
ports-small cs t mask i l =
    let x = channel-at cs i l in
    let few = (all-at IsChannel cs i x.0 t.each x.1).ports in
    cond-small (has mask i) (length (widths_of (slice_get cs i)))
    (subst (λ (o : Option Channel). length (widths_of o) ≤ 16) (sym x.1) few)
