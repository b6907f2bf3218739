-- Numbers written at pins: in loops, and what stands there afterwards.
use Rattle.std.proofs.Common.{◌≡◌, ℕ, zero, suc, ◌+◌, ◌<◌, ◌≤◌, ◌&&◌, ◌==◌, Bool, cond, List, [], ◌∷◌, ◌++◌, Some}
use Rattle.std.proofs.Common.{length, take, drop, map, get_or, set, slice_get, count_by, ⊎_elim, refl, ap, sym, ◌∙◌, arith}
use Rattle.std.proofs.Common.{get_or-set_same, get_or-set_other}
use Rattle.std.specs.List.{enumerate_from}
use Rattle.std.proofs.lemmas.Bool.{cases_eq, eq-eqb, ne_eqb}
use Rattle.std.proofs.lemmas.List.{at_drop_more, at_drop_all, length-set}
use Rattle.run_model.specs.trace_model.declared.channel.Channel.{Channel}
use Rattle.run_model.specs.trace_model.declared.channel.Dir.{Dir}
use Rattle.run_model.specs.trace_model.declared.channel.Dir.TheVariants.{Inward, Outward}
use Rattle.run_model.specs.trace_model.declared.row.Offers.{Offers}
use Rattle.run_model.specs.trace_model.declared.row.Row.{Row}
use Rattle.run_model.specs.trace_model.Row.{content_at}
use Rattle.run_model.proofs.trace_model_lemmas.CountingLemmas.{count-cons}
use Rattle.run_model.specs.chan_map.declared.pins.Plug.{Plug}
use Rattle.run_model.specs.declared.pins.PinNumber.{PinNumber}
use Rattle.run_model.specs.Pins.{inward_inputs, plug_inputs, inputs_from}
use Rattle.run_model.proofs.PinLemmas.{at_place}
use Rattle.chan_monitor.specs.declared.monitor.Passed.{Passed}
use Rattle.chan_monitor.specs.Passing.{passed}
use Rattle.std.proofs.lemmas.Option.{slice_get_read}
use Rattle.run_model.specs.vidi_bits.Number.{has}
use Rattle.run_model.proofs.trace_model_lemmas.RowLemmas.{first_of, content-read}
use Rattle.chan_monitor.specs.Entering.{write, passed_inputs, offered, ArePlugsWithin, IsPlugWithin}

-- ---- one step of a loop, and its end
pub write-more : {X : Type 0} (f : X → PinNumber) (pins all : List ℕ) (xs : List X) (i : ℕ) (x : X) → i < length xs → x ≡ get_or xs i x
    → write pins (map f (drop i xs)) ≡ all → write (set pins (f x).place (f x).number) (map f (drop (i + 1) xs)) ≡ all
write-more f pins all xs i x l e h =
    ap (λ y. write pins (f y ∷ map f (drop (i + 1) xs))) e ∙ sym (at_drop_more (λ ys. write pins (map f ys)) xs i x l) ∙ h

pub write-more_from : {X : Type 0} (f : ℕ × X → PinNumber) (pins all : List ℕ) (xs : List X) (i : ℕ) (x : X) → i < length xs
    → x ≡ get_or xs i x → write pins (map f (enumerate_from i (drop i xs))) ≡ all
    → write (set pins (f (i, x)).place (f (i, x)).number) (map f (enumerate_from (i + 1) (drop (i + 1) xs))) ≡ all
write-more_from f pins all xs i x l e h =
    ap (λ y. write pins (f (i, y) ∷ map f (enumerate_from (i + 1) (drop (i + 1) xs)))) e
    ∙ sym (at_drop_more (λ ys. write pins (map f (enumerate_from i ys))) xs i x l) ∙ h

pub write-append : (pins : List ℕ) (es fs : List PinNumber) → write pins (es ++ fs) ≡ write (write pins es) fs
write-append pins [] fs = refl
write-append pins (e ∷ es) fs = write-append (set pins e.place e.number) es fs

pub length-write : (pins : List ℕ) (es : List PinNumber) → length (write pins es) ≡ length pins
length-write pins [] = refl
length-write pins (e ∷ es) = length-write (set pins e.place e.number) es ∙ length-set pins e.place e.number

-- what a monitor lets pass is what the row enters
same-inputs : (channels : List Channel) (gates : ℕ) (offers : Offers) (c : ℕ) (dir : Dir) (plug : Plug) (flight : Bool) (content : List ℕ)
    → content ≡ content_at channels offers.contents c
    → passed_inputs dir plug (passed flight (has gates c) (has offers.valids c) (has offers.readies c)) content
    ≡ plug_inputs channels (offered gates offers) c dir plug
same-inputs channels gates offers c Inward plug flight content e = ap (inward_inputs plug (has offers.valids c && has gates c)) e
same-inputs channels gates offers c Outward plug flight content e = refl

-- the next channel
pub enter-more : (channels : List Channel) (plugs : List Plug) (gates : ℕ) (offers : Offers) (pins new all : List ℕ) (c : ℕ) (x : Channel)
    (plug : Plug) (p : Passed) (flight gate valid ready : Bool) (content : List ℕ)
    → c < length channels → c < length plugs → x ≡ get_or channels c x → plug ≡ get_or plugs c plug
    → gate ≡ has gates c → valid ≡ has offers.valids c → ready ≡ has offers.readies c → p ≡ passed flight gate valid ready
    → content ≡ content_at channels offers.contents c → new ≡ write pins (passed_inputs x.dir plug p content)
    → write pins (inputs_from channels (offered gates offers) c (drop c channels) (drop c plugs)) ≡ all
    → write new (inputs_from channels (offered gates offers) (c + 1) (drop (c + 1) channels) (drop (c + 1) plugs)) ≡ all
enter-more channels plugs gates offers pins new all c x plug p flight gate valid ready content l k ex ep eg ev er es ek en h =
    let row = offered gates offers in
    let rest = inputs_from channels row (c + 1) (drop (c + 1) channels) (drop (c + 1) plugs) in
    let one : p ≡ passed flight (has gates c) (has offers.valids c) (has offers.readies c) =
    es ∙ ap (λ g. passed flight g valid ready) eg ∙ ap (λ v. passed flight (has gates c) v ready) ev
    ∙ ap (passed flight (has gates c) (has offers.valids c)) er in
    let put : new ≡ write pins (plug_inputs channels row c x.dir plug) =
    en ∙ ap (λ q. write pins (passed_inputs x.dir plug q content)) one
    ∙ ap (write pins) (same-inputs channels gates offers c x.dir plug flight content ek) in
    ap (λ ps. write ps rest) put ∙ sym (write-append pins (plug_inputs channels row c x.dir plug) rest)
    ∙ ap (λ (y : Channel). write pins (plug_inputs channels row c y.dir plug ++ rest)) ex
    ∙ ap (λ (q : Plug). write pins (plug_inputs channels row c (get_or channels c x).dir q ++ rest)) ep
    ∙ sym (ap (λ qs. write pins (inputs_from channels row c (get_or channels c x ∷ drop (c + 1) channels) qs))
    (at_drop_more (λ qs. qs) plugs c plug k))
    ∙ sym (at_drop_more (λ ys. write pins (inputs_from channels row c ys (drop c plugs))) channels c x l) ∙ h

pub plug-within : (n : ℕ) (channels : List Channel) (plugs : List Plug) → ArePlugsWithin n channels plugs
    → (c : ℕ) (x : Channel) (plug : Plug)
    → c < length channels → x ≡ get_or channels c x → plug ≡ get_or plugs c plug
    → IsPlugWithin n x.dir plug × (length plug.contents ≡ length x.widths)
plug-within n channels plugs are c x plug l ex ep =
    are.each c x plug (slice_get_read channels (length channels) c x refl l ex)
    (slice_get_read plugs (length plugs) c plug refl (let m = are.many in omega (arith, l, m)) ep)

pub split-is : (channels : List Channel) (numbers rest front : List ℕ) (c len : ℕ) (x : Channel) → c < length channels
    → x ≡ get_or channels c x → rest ≡ drop (first_of channels c) numbers → len ≡ length x.widths → front ≡ take len rest
    → front ≡ content_at channels numbers c
split-is channels numbers rest front c len x l ex er el ef =
    ef ∙ ap (λ k. take k rest) el ∙ ap (take (length x.widths)) er ∙ sym (content-read channels numbers c x l ex)

pub enter-done : (channels : List Channel) (plugs : List Plug) (row : Row) (pins all : List ℕ) (c : ℕ) → length channels ≤ c
    → write pins (inputs_from channels row c (drop c channels) (drop c plugs)) ≡ all → pins ≡ all
enter-done channels plugs row pins all c l h =
    sym (at_drop_all (λ ys. write pins (inputs_from channels row c ys (drop c plugs))) channels c l) ∙ h

-- ---- what stands at a place
pub write-past : (es : List PinNumber) (pins : List ℕ) (k : ℕ) → count_by (at_place k) es ≡ 0 → get_or (write pins es) k 0 ≡ get_or pins k 0
write-past [] pins k none = refl
write-past (e ∷ es) pins k none = ⊎_elim
    (λ (h : e.place ≡ k). let c = count-cons (at_place k) e es in
    let one : cond {A = ℕ} (e.place == k) 1 0
    ≡ 1 = ap (λ b. cond {A = ℕ} b 1 0) (eq-eqb e.place k h) in absurd (omega (arith, c, one, none)))
    (λ (h : e.place ≡ k → ⊥).
    let c = count-cons (at_place k) e es in
    let zero-here : cond {A = ℕ} (e.place == k) 1 0 ≡ 0 = ap (λ b. cond {A = ℕ} b 1 0) (ne_eqb e.place k h) in
    write-past es (set pins e.place e.number) k (omega (arith, c, zero-here, none))
    ∙ get_or-set_other pins e.place k e.number 0 (λ g. h (sym g)))
    (cases_eq e.place k)

pub write-at : (es : List PinNumber) (pins : List ℕ) (i : ℕ) (e : PinNumber) → slice_get es i ≡ Some e → e.place < length pins
    → count_by (at_place e.place) es ≤ 1 → get_or (write pins es) e.place 0 ≡ e.number
write-at [] pins i e at l few = absurd (cc)
write-at (x ∷ xs) pins zero e at l few =
    let same : x ≡ e = cc in
    let here : x.place ≡ e.place = ap (λ (y : PinNumber). y.place) same in
    let c = count-cons (at_place e.place) x xs in
    let one : cond {A = ℕ} (x.place == e.place) 1 0 ≡ 1 = ap (λ b. cond {A = ℕ} b 1 0) (eq-eqb x.place e.place here) in
    write-past xs (set pins x.place x.number) e.place (omega (arith, c, one, few))
    ∙ ap (λ (y : PinNumber). get_or (set pins y.place y.number) e.place 0) same
    ∙ get_or-set_same pins e.place e.number 0 l
write-at (x ∷ xs) pins (suc i) e at l few =
    let c = count-cons (at_place e.place) x xs in
    write-at xs (set pins x.place x.number) i e at (let n = length-set pins x.place x.number in omega (arith, l, n)) (omega (arith, c, few))
