-- The offers' masks and numbers, written channel by channel.
use Rattle.std.proofs.Common.{◌≡◌, ℕ, zero, suc, ◌+◌, ◌<◌, ◌≤◌, List, [], ◌∷◌, ◌++◌}
use Rattle.std.proofs.Common.{length, take, drop, map, get_or, set, slice_get, add-one, refl, ap, sym, ◌∙◌, arith}
use Rattle.std.specs.List.{range_with_len}
use Rattle.std.proofs.lemmas.List.{append-nil, length-append, map-append, take_at, take_all, drop_at, drop-drop, drop_all}
use Rattle.std.proofs.lemmas.List.FromFn.{length-map-range_with_len}
use Rattle.std.proofs.lemmas.Option.{slice_get_read}
use Rattle.run_model.proofs.JoinedLaws.{joined-more}
use Rattle.run_model.specs.trace_model.declared.channel.Channel.{Channel}
use Rattle.run_model.specs.trace_model.Packet.{widths_of}
use Rattle.run_model.specs.trace_model.Row.{all_widths, replaced}
use Rattle.run_model.proofs.trace_model_lemmas.ContentsLemmas.{fit-length}
use Rattle.run_model.proofs.trace_model_lemmas.RowLemmas.{first_of, first-more, first-within, replaced-more}
use Rattle.run_model.specs.Building.{joined}
use Rattle.run_model.proofs.Contents.{fit-zeros}
use Rattle.env_script.specs.Offer.{Offer}
use Rattle.env_script.specs.Offered.{numbers_on, port_numbers, AllFit}
use Rattle.env_script.proofs.Numbers.{numbers-are}

-- ---- one channel
range-push : (a n : ℕ) → range_with_len a (suc n) ≡ range_with_len a n ++ (a + n) ∷ []
range-push a zero = ap (λ k. k ∷ []) (let z : a ≡ a + 0 = omega arith in z)
range-push a (suc n) = ap (λ xs. a ∷ xs) (range-push (a + 1) n
    ∙ ap (λ k. range_with_len (a + 1) n ++ k ∷ []) (let z : a + 1 + n ≡ a + suc n = omega arith in z))

numbers-push : (n : ℕ) (content : List ℕ) → port_numbers (n + 1) content ≡ port_numbers n content ++ get_or content n 0 ∷ []
numbers-push n content =
    ap (λ k. port_numbers k content) (add-one n) ∙ ap (map (λ port. get_or content port 0)) (range-push 0 n)
    ∙ map-append (λ port. get_or content port 0) (range_with_len 0 n) ((0 + n) ∷ [])
    ∙ ap (λ k. port_numbers n content ++ get_or content k 0 ∷ []) (let z : 0 + n ≡ n = omega arith in z)

pub port-written : (contents now new content : List ℕ) (at ports port y : ℕ) → port < ports → at + ports ≤ length contents
    → y ≡ get_or content port 0 → now ≡ replaced contents at (port_numbers port content) → new ≡ set now (at + port) y
    → new ≡ replaced contents at (port_numbers (port + 1) content)
port-written contents now new content at ports port y l room ey n w =
    let long : length (port_numbers port content) ≡ port = length-map-range_with_len (λ k. get_or content k 0) 0 port in
    replaced-more contents (port_numbers port content) now new at y (omega (arith, long, l, room)) n
    (w ∙ ap (λ k. set now (at + k) y) (sym long))
    ∙ ap (λ z. replaced contents at (port_numbers port content ++ z ∷ [])) ey
    ∙ ap (replaced contents at) (sym (numbers-push port content))

-- ---- all channels

pub widths-here : (channels : List Channel) (c : ℕ) (x : Channel) → c < length channels → x ≡ get_or channels c x
    → widths_of (slice_get channels c) ≡ x.widths
widths-here channels c x l e = ap widths_of (slice_get_read channels (length channels) c x refl l e)

-- there is room for a channel's numbers
pub room-here : (channels : List Channel) (contents : List ℕ) (c at : ℕ) (x : Channel) → length contents ≡ length (all_widths channels)
    → c < length channels → x ≡ get_or channels c x → at ≡ first_of channels c → at + length x.widths ≤ length contents
room-here channels contents c at x long l e p =
    let fit = fit-zeros (all_widths channels) in
    let w = first-within channels _ c x fit l e in
    let n = fit-length (all_widths channels) _ fit in
    omega (arith, w, n, long, p)

-- the contents are written as far as channel c
pub record AreFilled (channels : List Channel) (f : ℕ → List ℕ) (old contents : List ℕ) (c at : ℕ) : Type 0 where
  pub place : at ≡ first_of channels c
  pub front : length (joined f 0 (take c channels)) ≡ at
  pub filled_is : contents ≡ joined f 0 (take c channels) ++ drop at old

pub fill-none : (channels : List Channel) (f : ℕ → List ℕ) (old contents : List ℕ) → contents ≡ old
    → AreFilled channels f old contents 0 0
fill-none channels f old contents e = record { place = refl; front = refl; filled_is = e }

over : (front rest numbers : List ℕ) (at : ℕ) (old : List ℕ) → rest ≡ drop at old → length front ≡ at
    → replaced (front ++ rest) at numbers ≡ (front ++ numbers) ++ drop (at + length numbers) old
over front rest numbers at old r long =
    ap (λ xs. xs ++ numbers ++ drop (at + length numbers) (front ++ rest)) (take_at front rest at long)
    ∙ ap (λ xs. front ++ numbers ++ xs) (sym (drop-drop (length numbers) at (front ++ rest)))
    ∙ ap (λ xs. front ++ numbers ++ drop (length numbers) xs) (drop_at front rest at long)
    ∙ ap (λ xs. front ++ numbers ++ drop (length numbers) xs) r
    ∙ ap (λ xs. front ++ numbers ++ xs) (drop-drop (length numbers) at old)

pub fill-more : (channels : List Channel) (offer : ℕ → Offer) (old contents new : List ℕ) (c at next ports : ℕ) (x : Channel)
    → AllFit channels offer → c < length channels → x ≡ get_or channels c x → ports ≡ length x.widths
    → AreFilled channels (numbers_on channels offer) old contents c at
    → new ≡ replaced contents at (port_numbers ports (offer c).content) → next ≡ at + ports
    → AreFilled channels (numbers_on channels offer) old new (c + 1) next
fill-more channels offer old contents new c at next ports x fits l ex ports-are are n e =
    let f = numbers_on channels offer in
    let front = joined f 0 (take c channels) in
    let numbers = port_numbers ports (offer c).content in
    let here : f c ≡ numbers = sym (ap (λ k. port_numbers k (offer c).content) ports-are
    ∙ numbers-are channels offer fits c x (slice_get_read channels (length channels) c x refl l ex)) in
    let many : length numbers ≡ ports = length-map-range_with_len (λ k. get_or (offer c).content k 0) 0 ports in
    let more : joined f 0 (take (c + 1) channels) ≡ front ++ numbers = joined-more f channels c x l ex ∙ ap (λ xs. front ++ xs) here in
    let place = are.place in
    record {
      place = let g = first-more channels c x l ex in omega (arith, g, place, e, ports-are);
      front = ap length more ∙ length-append front numbers
          ∙ (let b = are.front in let z : length front + length numbers ≡ next = omega (arith, many, b, e) in z);
      filled_is = n ∙ ap (λ xs. replaced xs at numbers) are.filled_is ∙ over front (drop at old) numbers at old refl are.front
          ∙ ap (λ xs. xs ++ drop (at + length numbers) old) (sym more)
          ∙ ap (λ a. joined f 0 (take (c + 1) channels) ++ drop a old)
          (let z : at + length numbers ≡ next = omega (arith, many, e) in z);
    }

pub fill-done : (channels : List Channel) (f : ℕ → List ℕ) (old contents : List ℕ) (c at : ℕ) → length old ≡ length (all_widths channels)
    → length channels ≤ c → AreFilled channels f old contents c at → contents ≡ joined f 0 channels
fill-done channels f old contents c at long l are =
    let all = take_all c channels l in
    let past : length old ≤ at =
    let p = are.place in let a : first_of channels c ≡ length (all_widths channels) = ap (λ cs. length (all_widths cs)) all in
    omega (arith, p, a, long) in
    are.filled_is ∙ ap (λ cs. joined f 0 cs ++ drop at old) all
    ∙ ap (λ xs. joined f 0 channels ++ xs) (drop_all at old past) ∙ append-nil (joined f 0 channels)
