-- Numbers and bits written at their places.
use Rattle.std.proofs.Common.{◌≡◌, ◌≢◌, ℕ, zero, suc, ◌+◌, ◌-◌, ◌^◌, ◌<◌, ◌≤◌, List, [], ◌∷◌, ◌++◌, Option, Some, None}
use Rattle.std.proofs.Common.{length, take, drop, get_or, slice_get, refl, ap, sym, subst, ◌∙◌, append_assoc, arith, ⊎_elim}
use Rattle.std.proofs.lemmas.Bool.{cases_lt}
use Rattle.std.proofs.Math.Seq.{drop-drop, take-add}
use Rattle.std.proofs.lemmas.List.{length-append, length-drop, length-take-le, take_at, take_all, drop_at, get_or-drop, get_or-take}
use Rattle.std.proofs.lemmas.List.{get_or_append_left, get_or-append_right, take-append-drop}
use Rattle.std.proofs.lemmas.Grind.{same_number_lists}
use Rattle.std.proofs.lemmas.List.Concat.{flat_map-append}
use Rattle.std.proofs.lemmas.Option.{slice_get_within, get_or_from_slice_get, same_Some}
use Rattle.trace_code.specs.vidi_bits.Number.{has}
use Rattle.trace_code.proofs.vidi_bits_lemmas.BitLemmas.{fits_by_bits, has-above}
use Rattle.trace_code.specs.trace_model.declared.channel.Channel.{Channel}
use Rattle.trace_code.specs.trace_model.Packet.{Fit, widths_of}
use Rattle.trace_code.specs.trace_model.Row.{all_widths, content_at, replaced}
use Rattle.trace_code.proofs.trace_model_lemmas.ContentsLemmas.{fit-append, fit-front, fit-rest, fit-length}
use Rattle.trace_code.proofs.trace_model_lemmas.MaskLemmas.{no-bit-from-has}
use Rattle.trace_code.proofs.trace_model_lemmas.RowLemmas.{first_of, first-more}

-- ---- a mask
-- a mask of n channels that differs on one of them alone is one of n channels
pub still-below : (mask new c n : ℕ) → c < n → mask < 2 ^ n → ((d : ℕ) → d ≢ c → has new d ≡ has mask d) → new < 2 ^ n
still-below mask new c n l small same = fits_by_bits new n (λ k above.
    no-bit-from-has new k (same k (λ e. absurd (omega (arith, e, above, l))) ∙ has-above mask n k small above))

-- ---- numbers replaced
replaced-is : (xs ns : List ℕ) (at : ℕ) → replaced xs at ns ≡ take at xs ++ (ns ++ drop (at + length ns) xs)
replaced-is xs ns at = append_assoc (take at xs) ns (drop (at + length ns) xs)

pub replaced-length : (xs ns : List ℕ) (at : ℕ) → at + length ns ≤ length xs → length (replaced xs at ns) ≡ length xs
replaced-length xs ns at l =
    let a = ap length (replaced-is xs ns at) ∙ length-append (take at xs) (ns ++ drop (at + length ns) xs) in
    let b = length-append ns (drop (at + length ns) xs) in
    let c = length-take-le at xs (omega (arith, l)) in
    let d = length-drop (at + length ns) xs in omega (arith, a, b, c, d, l)

replaced-below : (xs ns : List ℕ) (at i : ℕ) → at ≤ length xs → i < at → get_or (replaced xs at ns) i 0 ≡ get_or xs i 0
replaced-below xs ns at i l b =
    let c = length-take-le at xs l in
    ap (λ ys. get_or ys i 0) (replaced-is xs ns at) ∙ get_or_append_left (take at xs) (ns ++ drop (at + length ns) xs) 0 i (omega (arith, b, c)) ∙ get_or-take at xs i 0 b

replaced-above : (xs ns : List ℕ) (at i : ℕ) → at ≤ length xs → at + length ns ≤ i → get_or (replaced xs at ns) i 0 ≡ get_or xs i 0
replaced-above xs ns at i l b =
    let rest = drop (at + length ns) xs in
    let f : (at + length ns) + (i - at - length ns) ≡ i = omega (arith, b) in
    ap (λ ys. get_or ys i 0) (replaced-is xs ns at)
    ∙ get_or-append_right (take at xs) (ns ++ rest) at i 0 (length-take-le at xs l) (omega (arith, b))
    ∙ get_or-append_right ns rest (length ns) (i - at) 0 refl (omega (arith, b))
    ∙ get_or-drop (at + length ns) xs (i - at - length ns) 0
    ∙ ap (λ k. get_or xs k 0) f

-- a part in which two lists agree
part-same : (xs ys : List ℕ) (from n : ℕ) → length xs ≡ length ys → from + n ≤ length xs
    → ((i : ℕ) → from ≤ i → i < from + n → get_or xs i 0 ≡ get_or ys i 0) → take n (drop from xs) ≡ take n (drop from ys)
part-same xs ys from n long within same =
    let a = length-drop from xs in
    let b = length-drop from ys in
    let c = length-take-le n (drop from xs) (omega (arith, a, within)) in
    let d = length-take-le n (drop from ys) (omega (arith, b, within, long)) in
    same_number_lists (take n (drop from xs)) (take n (drop from ys)) (omega (arith, c, d)) (λ k l.
    (let m : k < n = omega (arith, l, c) in
    get_or-take n (drop from xs) k 0 m ∙ get_or-drop from xs k 0 ∙ same (from + k) (omega arith) (omega (arith, m))
    ∙ sym (get_or-drop from ys k 0) ∙ sym (get_or-take n (drop from ys) k 0 m)))

-- ---- the contents of one channel replaced
-- the numbers of a channel stand before those of a later one
first-mono : (cs : List Channel) (n m : ℕ) → n ≤ m → first_of cs n ≤ first_of cs m
first-mono cs n m l =
    let e : n + (m - n) ≡ m = omega (arith, l) in
    let a = ap (λ ds. length (all_widths ds)) (take-add n (m - n) cs)
    ∙ ap length (flat_map-append (λ (d : Channel). d.widths) (take n cs) (take (m - n) (drop n cs)))
    ∙ length-append (all_widths (take n cs)) (all_widths (take (m - n) (drop n cs))) in
    let b = ap (first_of cs) e in omega (arith, a, b)

first-past : (cs : List Channel) (c : ℕ) (x : Channel) → slice_get cs c ≡ Some x → first_of cs (c + 1) ≡ first_of cs c + length x.widths
first-past cs c x at = first-more cs c x (slice_get_within cs c x at) (sym (get_or_from_slice_get cs c x x at))

-- there is room for a channel's numbers
pub room-at : (cs : List Channel) (xs : List ℕ) (c : ℕ) (x : Channel) → length xs ≡ length (all_widths cs) → slice_get cs c ≡ Some x
    → first_of cs c + length x.widths ≤ length xs
room-at cs xs c x long at =
    let a = first-past cs c x at in
    let b = first-mono cs (c + 1) (length cs) (let w = slice_get_within cs c x at in omega (arith, w)) in
    let d = ap (λ ds. length (all_widths ds)) (take_all (length cs) cs (omega arith)) in omega (arith, a, b, d, long)

pub content-here : (cs : List Channel) (xs ns : List ℕ) (c at : ℕ) (x : Channel) → length xs ≡ length (all_widths cs)
    → slice_get cs c ≡ Some x → at ≡ first_of cs c → length ns ≡ length x.widths → content_at cs (replaced xs at ns) c ≡ ns
content-here cs xs ns c at x long there place many =
    let room = room-at cs xs c x long there in
    let front = length-take-le at xs (omega (arith, room, place)) in
    ap (λ (o : Option Channel). take (length (widths_of o)) (drop (first_of cs c) (replaced xs at ns))) there
    ∙ ap (λ k. take (length x.widths) (drop k (replaced xs at ns))) (sym place)
    ∙ ap (λ ys. take (length x.widths) (drop at ys)) (replaced-is xs ns at)
    ∙ ap (take (length x.widths)) (drop_at (take at xs) (ns ++ drop (at + length ns) xs) at front)
    ∙ take_at ns (drop (at + length ns) xs) (length x.widths) many

content-beside : (cs : List Channel) (xs ns : List ℕ) (c at d : ℕ) (x y : Channel) → length xs ≡ length (all_widths cs)
    → slice_get cs c ≡ Some x → at ≡ first_of cs c → length ns ≡ length x.widths → d ≢ c → slice_get cs d ≡ Some y
    → content_at cs (replaced xs at ns) d ≡ content_at cs xs d
content-beside cs xs ns c at d x y long there place many ne other =
    let room = room-at cs xs c x long there in
    let room-d = room-at cs xs d y long other in
    let past = first-past cs c x there in
    let past-d = first-past cs d y other in
    let same-long = replaced-length xs ns at (omega (arith, room, place, many)) in
    let within : at ≤ length xs = omega (arith, room, place) in
    let widths = ap (λ (o : Option Channel). length (widths_of o)) other in
    let items : (i : ℕ) → first_of cs d ≤ i → i < first_of cs d + length (widths_of (slice_get cs d))
    → get_or (replaced xs at ns) i 0 ≡ get_or xs i 0 =
    λ i low high. ⊎_elim
    (λ (l : d < c). replaced-below xs ns at i within
    (let m = first-mono cs (d + 1) c (omega (arith, l)) in omega (arith, m, past-d, place, high, widths)))
    (λ (l : c ≤ d). replaced-above xs ns at i within
    (let m = first-mono cs (c + 1) d (omega (arith, l, ne)) in omega (arith, m, past, place, low, many)))
    (cases_lt d c) in
    part-same (replaced xs at ns) xs (first_of cs d) (length (widths_of (slice_get cs d))) same-long
    (omega (arith, room-d, widths, same-long)) items

pub content-other : (cs : List Channel) (xs ns : List ℕ) (c at d : ℕ) (x : Channel) → length xs ≡ length (all_widths cs)
    → slice_get cs c ≡ Some x → at ≡ first_of cs c → length ns ≡ length x.widths → d ≢ c
    → content_at cs (replaced xs at ns) d ≡ content_at cs xs d
content-other cs xs ns c at d x long there place many ne = by (slice_get cs d) refl
  where
    by : (o : Option Channel) → slice_get cs d ≡ o → content_at cs (replaced xs at ns) d ≡ content_at cs xs d
    by None e =
        ap (λ (o : Option Channel). take (length (widths_of o)) (drop (first_of cs d) (replaced xs at ns))) e
        ∙ sym (ap (λ (o : Option Channel). take (length (widths_of o)) (drop (first_of cs d) xs)) e)
    by (Some y) e = content-beside cs xs ns c at d x y long there place many ne e

pub fit-replaced : (cs : List Channel) (xs ns : List ℕ) (c at : ℕ) (x : Channel) → Fit (all_widths cs) xs → slice_get cs c ≡ Some x
    → at ≡ first_of cs c → Fit x.widths ns → Fit (all_widths cs) (replaced xs at ns)
fit-replaced cs xs ns c at x fit there place own =
    let front = all_widths (take c cs) in
    let back = all_widths (drop (suc c) cs) in
    let whole : all_widths cs ≡ front ++ (x.widths ++ back) =
    sym (ap all_widths (take-append-drop c cs)) ∙ flat_map-append (λ (d : Channel). d.widths) (take c cs) (drop c cs)
    ∙ ap (λ ws. front ++ ws) (ap all_widths (drop-one cs c x there)) in
    let fits : Fit (front ++ (x.widths ++ back)) xs = subst (λ ws. Fit ws xs) whole fit in
    let rest = fit-rest x.widths back (drop (length front) xs) (fit-rest front (x.widths ++ back) xs fits) in
    let many = fit-length x.widths ns own in
    let past : drop (length x.widths) (drop (length front) xs) ≡ drop (at + length ns) xs =
    drop-drop (length x.widths) (length front) xs ∙ ap (λ k. drop k xs) (omega (arith, place, many)) in
    subst (λ ws. Fit ws (replaced xs at ns)) (sym whole)
    (subst (Fit (front ++ (x.widths ++ back))) (sym (replaced-is xs ns at)) (fit-append front (x.widths ++ back) (take at xs) (ns ++ drop (at + length ns) xs)
    (subst (λ k. Fit front (take k xs)) (sym place) (fit-front front (x.widths ++ back) xs fits))
    (fit-append x.widths back ns (drop (at + length ns) xs) own (subst (Fit back) past rest))))
  where
    drop-one : (ds : List Channel) (k : ℕ) (y : Channel) → slice_get ds k ≡ Some y → drop k ds ≡ y ∷ drop (suc k) ds
    drop-one [] k y e = absurd (cc)
    drop-one (d ∷ ds) zero y e = ap (λ z. z ∷ ds) (same_Some d y e)
    drop-one (d ∷ ds) (suc k) y e = drop-one ds k y e
