-- Masks and contents that are made channel by channel.
use Rattle.std.proofs.Common.{◌≡◌, ℕ, ◌+◌, ◌*◌, ◌<◌, ◌≤◌, ◌^◌, ◌&&◌, Bool, true, false, not, cond, List, [], ◌∷◌}
use Rattle.std.proofs.Common.{◌++◌, Some, length, take, drop, get_or, set, slice_get, append_assoc}
use Rattle.std.proofs.Common.{refl, ap, sym, ◌∙◌, arith}
use Rattle.std.proofs.lemmas.List.{append-nil, length-append, length-drop, length-map, length-take-le, map-append, take-append-drop}
use Rattle.std.proofs.lemmas.List.{take_at}
use Rattle.std.proofs.lemmas.List.{take_all, drop_at, drop-drop, drop_all}
use Rattle.std.proofs.lemmas.Option.{slice_get_read}
use Rattle.run_model.specs.trace_model.declared.channel.Channel.{Channel}
use Rattle.run_model.specs.trace_model.declared.channel.Dir.{Dir}
use Rattle.run_model.specs.trace_model.declared.channel.Dir.TheVariants.{Inward, Outward}
use Rattle.run_model.specs.trace_model.declared.row.Offers.{Offers}
use Rattle.run_model.specs.trace_model.Packet.{Fit}
use Rattle.run_model.specs.trace_model.Row.{all_widths, content_at, replaced}
use Rattle.run_model.proofs.trace_model_lemmas.CountingLemmas.{take-more_read}
use Rattle.run_model.proofs.trace_model_lemmas.ContentsLemmas.{fit-length}
use Rattle.run_model.proofs.trace_model_lemmas.RowLemmas.{first_of, first-more, first-within, content-read, replaced-more}
use Rattle.run_model.specs.chan_map.declared.pins.Pin.{Pin}
use Rattle.run_model.specs.chan_map.declared.pins.Plug.{Plug}
use Rattle.run_model.specs.Building.{at_plug, content_on, joined, mask_of}
use Rattle.run_model.specs.Offers.{no_content, AreZeroWhileDown}
use Rattle.std.proofs.lemmas.List.{get_or_read}
use Rattle.run_model.proofs.Contents.{mask-more}
use Rattle.run_model.specs.vidi_bits.Number.{has}
use Rattle.run_model.proofs.JoinedLaws.{joined-more}
use Rattle.chan_monitor.specs.declared.monitor.Passed.{Passed}
use Rattle.chan_monitor.specs.Passing.{passed}
use Rattle.chan_monitor.specs.Showing.{filled, read, IsPlugShown, ArePlugsShown}

-- ---- at a channel and its plug
pub plug-at : {A : Type 0} (none : A) (f : Dir → Plug → A) (channels : List Channel) (plugs : List Plug) (c : ℕ) (x : Channel) (plug : Plug)
    → c < length channels → length plugs ≡ length channels → x ≡ get_or channels c x → plug ≡ get_or plugs c plug
    → at_plug none f (slice_get channels c) (slice_get plugs c) ≡ f x.dir plug
plug-at none f channels plugs c x plug l m ex ep =
    ap (λ o. at_plug none f o (slice_get plugs c)) (slice_get_read channels (length channels) c x refl l ex)
    ∙ ap (at_plug none f (Some x)) (slice_get_read plugs (length plugs) c plug refl (omega (arith, l, m)) ep)

pub mask-next : (f : ℕ → Dir → Plug → Bool) (channels : List Channel) (plugs : List Plug) (c : ℕ) (x : Channel) (plug : Plug) (up : Bool)
    (mask new : ℕ) → c < length channels → length plugs ≡ length channels → x ≡ get_or channels c x → plug ≡ get_or plugs c plug
    → up ≡ f c x.dir plug → new ≡ cond up 1 0 * 2 ^ c + mask
    → mask ≡ mask_of (λ k. at_plug false (f k) (slice_get channels k) (slice_get plugs k)) c
    → new ≡ mask_of (λ k. at_plug false (f k) (slice_get channels k) (slice_get plugs k)) (c + 1)
mask-next f channels plugs c x plug up mask new l m ex ep u n h =
    mask-more (λ k. at_plug false (f k) (slice_get channels k) (slice_get plugs k)) c up mask new
    (u ∙ sym (plug-at false (f c) channels plugs c x plug l m ex ep)) n h

pub plug-shown : (n : ℕ) (channels : List Channel) (plugs : List Plug) → ArePlugsShown n channels plugs
    → (c : ℕ) (x : Channel) (plug : Plug)
    → c < length channels → x ≡ get_or channels c x → plug ≡ get_or plugs c plug
    → IsPlugShown n x.dir plug × (length plug.contents ≡ length x.widths)
plug-shown n channels plugs are c x plug l ex ep =
    are.each c x plug (slice_get_read channels (length channels) c x refl l ex)
    (slice_get_read plugs (length plugs) c plug refl (let m = are.many in omega (arith, l, m)) ep)

-- ---- numbers in place of others

pub read-more : (out : List ℕ) (pins : List Pin) (i : ℕ) (pin : Pin) → i < length pins → pin ≡ get_or pins i pin
    → read out (take (i + 1) pins) ≡ read out (take i pins) ++ get_or out pin.place 0 ∷ []
read-more out pins i pin l e =
    ap (read out) (take-more_read pins i pin l e) ∙ map-append (λ (p : Pin). get_or out p.place 0) (take i pins) (pin ∷ [])

pub length-read : (out : List ℕ) (pins : List Pin) → length (read out pins) ≡ length pins
length-read out pins = length-map pins (λ (p : Pin). get_or out p.place 0)

-- one more pin is read
pub pin-read : (contents now new out : List ℕ) (pins : List Pin) (at i y : ℕ) (pin : Pin) → i < length pins → pin ≡ get_or pins i pin
    → at + length pins ≤ length contents → y ≡ get_or out pin.place 0 → now ≡ replaced contents at (read out (take i pins))
    → new ≡ set now (at + i) y → new ≡ replaced contents at (read out (take (i + 1) pins))
pin-read contents now new out pins at i y pin l e room ey n w =
    let long : length (read out (take i pins)) ≡ i = length-read out (take i pins) ∙ length-take-le i pins (omega (arith, l)) in
    replaced-more contents (read out (take i pins)) now new at y (omega (arith, long, l, room)) n
    (w ∙ ap (λ k. set now (at + k) y) (sym long))
    ∙ ap (λ z. replaced contents at (read out (take i pins) ++ z ∷ [])) ey
    ∙ ap (replaced contents at) (sym (read-more out pins i pin l e))

-- ---- the contents of all channels

-- the offered content of an inward channel, 0 while its valid is down
pub offered-is : (channels : List Channel) (offers : Offers) (c : ℕ) (b : Bool) → has offers.valids c ≡ b
    → (has offers.valids c ≡ false → content_at channels offers.contents c ≡ no_content channels c)
    → cond b (content_at channels offers.contents c) (no_content channels c) ≡ content_at channels offers.contents c
offered-is channels offers c true e zeros = refl
offered-is channels offers c false e zeros = sym (zeros e)

-- a channel's part, by its direction
part : (channels : List Channel) (offers : Offers) (out : List ℕ) (c : ℕ) (dir : Dir) (plug : Plug) (at k : ℕ) (front contents : List ℕ)
    → (dir ≡ Inward → content_on channels offers out c Inward plug ≡ take k (drop at offers.contents)) → length plug.contents ≡ k
    → at + k ≤ length offers.contents → length front ≡ at → contents ≡ front ++ drop at offers.contents
    → (filled dir plug at contents out ≡ front ++ content_on channels offers out c dir plug ++ drop (at + k) offers.contents)
    × (length (content_on channels offers out c dir plug) ≡ k)
part channels offers out c Inward plug at k front contents inward many room long is =
    let n = inward refl in
    let rest = drop at offers.contents in (
      is ∙ ap (λ xs. front ++ xs) (sym (take-append-drop k rest)) ∙ sym (append_assoc front (take k rest) (drop k rest))
          ∙ ap (λ xs. front ++ take k rest ++ xs) (drop-drop k at offers.contents)
          ∙ ap (λ xs. front ++ xs ++ drop (at + k) offers.contents) (sym n),
      ap length n ∙ length-take-le k rest (let d = length-drop at offers.contents in omega (arith, d, room)),
    )
part channels offers out c Outward plug at k front contents inward many room long is =
    let numbers = read out plug.contents in
    let rest = drop at offers.contents in
    let count : length numbers ≡ k = length-read out plug.contents ∙ many in (
      ap (λ xs. take at xs ++ numbers ++ drop (at + length numbers) xs) is
          ∙ ap (λ xs. xs ++ numbers ++ drop (at + length numbers) (front ++ rest)) (take_at front rest at long)
          ∙ ap (λ xs. front ++ numbers ++ xs) (sym (drop-drop (length numbers) at (front ++ rest)))
          ∙ ap (λ xs. front ++ numbers ++ drop (length numbers) xs) (drop_at front rest at long)
          ∙ ap (λ xs. front ++ numbers ++ xs) (drop-drop (length numbers) at offers.contents)
          ∙ ap (λ n. front ++ numbers ++ drop (at + n) offers.contents) count,
      count,
    )

abbrev pub content_in : List Channel → List Plug → Offers → List ℕ → ℕ → List ℕ
content_in channels plugs offers out c = at_plug [] (content_on channels offers out c) (slice_get channels c) (slice_get plugs c)

-- the contents are filled as far as channel c
pub record AreFilled (channels : List Channel) (plugs : List Plug) (offers : Offers) (out contents : List ℕ) (c at : ℕ) : Type 0 where
  pub place : at ≡ first_of channels c
  pub front : length (joined (content_in channels plugs offers out) 0 (take c channels)) ≡ at
  pub filled_is : contents ≡ joined (content_in channels plugs offers out) 0 (take c channels) ++ drop at offers.contents

pub fill-more : (channels : List Channel) (plugs : List Plug) (offers : Offers) (out contents new : List ℕ) (c at next : ℕ) (x : Channel)
    (plug : Plug) → Fit (all_widths channels) offers.contents → AreZeroWhileDown channels offers → c < length channels
    → length plugs ≡ length channels → x ≡ get_or channels c x → plug ≡ get_or plugs c plug → length plug.contents ≡ length x.widths
    → AreFilled channels plugs offers out contents c at → new ≡ filled x.dir plug at contents out → next ≡ at + length x.widths
    → AreFilled channels plugs offers out new (c + 1) next
fill-more channels plugs offers out contents new c at next x plug fit zeros l m ex ep many are n e =
    let f = content_in channels plugs offers out in
    let k = length x.widths in
    let front = joined f 0 (take c channels) in
    let here : f c ≡ content_on channels offers out c x.dir plug = plug-at []
    (content_on channels offers out c) channels plugs c x plug l m ex ep in
    let more : joined f 0 (take (c + 1) channels) ≡ front ++ content_on channels offers out c x.dir plug =
    joined-more f channels c x l ex ∙ ap (λ xs. front ++ xs) here in
    let place = are.place in
    let within : at + k ≤ length offers.contents = let w = first-within channels offers.contents c x fit l ex in omega (arith, w, place) in
    let p = part channels offers out c x.dir plug at k front contents
    (λ inward. offered-is channels offers c (has offers.valids c) refl
    (zeros c x (slice_get_read channels (length channels) c x refl l ex) inward)
    ∙ content-read channels offers.contents c x l ex ∙ ap (λ a. take k (drop a offers.contents)) (sym place))
    many within are.front are.filled_is in
    record {
      place = let g = first-more channels c x l ex in omega (arith, g, place, e);
      front = ap length more ∙ length-append front (content_on channels offers out c x.dir plug)
          ∙ (let a = p.1 in let b = are.front in let z : length front + length (content_on channels offers out c x.dir plug) ≡ next =
          omega (arith, a, b, e) in z);
      filled_is = n ∙ p.0 ∙ ap (λ xs. xs ++ drop (at + k) offers.contents) (sym more)
          ∙ ap (λ a. joined f 0 (take (c + 1) channels) ++ drop a offers.contents) (sym e);
    }

pub fill-none : (channels : List Channel) (plugs : List Plug) (offers : Offers) (out contents : List ℕ) → contents ≡ offers.contents
    → AreFilled channels plugs offers out contents 0 0
fill-none channels plugs offers out contents e = record { place = refl; front = refl; filled_is = e }

pub fill-done : (channels : List Channel) (plugs : List Plug) (offers : Offers) (out contents : List ℕ) (c at : ℕ)
    → Fit (all_widths channels) offers.contents → length channels ≤ c → AreFilled channels plugs offers out contents c at
    → contents ≡ joined (content_in channels plugs offers out) 0 channels
fill-done channels plugs offers out contents c at fit l are =
    let f = content_in channels plugs offers out in
    let all = take_all c channels l in
    let past : length offers.contents ≤ at =
    let p = are.place in let a : first_of channels c ≡ length (all_widths channels) = ap (λ cs. length (all_widths cs)) all in
    let b = fit-length (all_widths channels) offers.contents fit in omega (arith, p, a, b) in
    are.filled_is ∙ ap (λ cs. joined f 0 cs ++ drop at offers.contents) all
    ∙ ap (λ xs. joined f 0 channels ++ xs) (drop_all at offers.contents past) ∙ append-nil (joined f 0 channels)

-- ---- what a monitor passes of a row's masks
pub passed-is : (c : ℕ) (flight : Bool) (p : Passed) (gates valids readies : ℕ) (gate valid ready : Bool) → gate ≡ has gates c
    → valid ≡ has valids c → ready ≡ has readies c → p ≡ passed flight gate valid ready
    → p ≡ passed flight (has gates c) (has valids c) (has readies c)
passed-is c flight p gates valids readies gate valid ready g v r e =
    e ∙ ap (λ x. passed flight x valid ready) g ∙ ap (λ x. passed flight (has gates c) x ready) v
    ∙ ap (passed flight (has gates c) (has valids c)) r

pub start-is : (monitors : List Bool) (c : ℕ) (flight : Bool) (p : Passed) (gates valids readies : ℕ) (gate valid ready : Bool)
    → c < length monitors → flight ≡ get_or monitors c flight → gate ≡ has gates c → valid ≡ has valids c → ready ≡ has readies c
    → p ≡ passed flight gate valid ready → p.starts ≡ ((has valids c && has gates c) && not (get_or monitors c false))
start-is monitors c flight p gates valids readies gate valid ready l m g v r e =
    ap (λ (x : Passed). x.starts) (passed-is c flight p gates valids readies gate valid ready g v r e)
    ∙ ap (λ b. (has valids c && has gates c) && not b) (get_or_read monitors c flight l m false)

pub end-is : (c : ℕ) (flight : Bool) (p : Passed) (gates valids readies : ℕ) (gate valid ready : Bool) → gate ≡ has gates c
    → valid ≡ has valids c → ready ≡ has readies c → p ≡ passed flight gate valid ready
    → p.ends ≡ ((has valids c && has gates c) && has readies c)
end-is c flight p gates valids readies gate valid ready g v r e =
    ap (λ (x : Passed). x.ends) (passed-is c flight p gates valids readies gate valid ready g v r e)
