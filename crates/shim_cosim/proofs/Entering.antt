-- Numbers that are entered and read channel by channel, in loops.
use Rattle.std.proofs.Common.{◌≡◌, ℕ, zero, suc, ◌+◌, ◌<◌, ◌≤◌, ◌==◌, List, [], ◌∷◌, ◌++◌}
use Rattle.std.proofs.Common.{length, take, drop, get_or, set, replicate, refl, ap, sym, ◌∙◌, arith, append_assoc}
use Rattle.std.proofs.lemmas.List.{append-nil, at_drop_more, drop_all, drop_at, drop-drop, length-append, length-drop, length-take-le, take-append-drop}
use Rattle.std.proofs.lemmas.List.{take_all, take_at}
use Rattle.std.proofs.lemmas.List.Sums.{sum_by_push, sum_by-cons, sum_by-take-le}
use Rattle.std.proofs.lemmas.Option.{slice_get_read}
use Rattle.std.specs.List.{sum_by}
use Rattle.replay_run.specs.trace_model.declared.channel.Channel.{Channel}
use Rattle.replay_run.specs.trace_model.declared.channel.Dir.{Dir}
use Rattle.replay_run.specs.trace_model.declared.channel.Dir.TheVariants.{Inward, Outward}
use Rattle.replay_run.specs.trace_model.declared.row.Offers.{Offers}
use Rattle.replay_run.specs.trace_model.declared.row.Row.{Row}
use Rattle.replay_run.specs.trace_model.Packet.{Fit}
use Rattle.replay_run.specs.trace_model.Row.{all_widths, content_at, replaced}
use Rattle.replay_run.proofs.trace_model_lemmas.ContentsLemmas.{fit-length}
use Rattle.replay_run.proofs.trace_model_lemmas.CountingLemmas.{take-more_read}
use Rattle.replay_run.proofs.trace_model_lemmas.RowLemmas.{first_of, first-more, first-within, content-read, replaced-none, replaced-more}
use Rattle.replay_run.specs.run_model.Building.{joined}
use Rattle.replay_run.proofs.run_model_lemmas.JoinedLaws.{joined-more}
use Rattle.shim_gen.specs.shim_trees.Pieces.{each_some, upto}
use Rattle.shim_cosim.specs.declared.recorded.Spot.{Spot}
use Rattle.shim_cosim.specs.Recorded.{entered_inputs, channel_inputs, side_count, input_count, inputs_count, content_count, output_count}
use Rattle.shim_cosim.specs.Recorded.{outputs_count, spot_place, spot_in, seat, is_raised, chosen_on, is_chosen, chosen_in, made_on, made_in}
use Rattle.shim_cosim.specs.Recorded.{made_content}

-- ---- lists of pieces
pub each_some-push : {X Y : Type 0} (f : ℕ → X → List Y) (k : ℕ) (xs : List X) (x : X)
    → each_some f k (xs ++ x ∷ []) ≡ each_some f k xs ++ f (k + length xs) x
each_some-push f k [] x = append-nil (f k x) ∙ ap (λ n. f n x) (let z : k ≡ k + 0 = omega arith in z)
each_some-push f k (y ∷ ys) x =
    ap (λ zs. f k y ++ zs) (each_some-push f (k + 1) ys x)
    ∙ sym (append_assoc (f k y) (each_some f (k + 1) ys) (f (k + 1 + length ys) x))
    ∙ ap (λ n. f k y ++ each_some f (k + 1) ys ++ f n x) (let z : k + 1 + length ys ≡ k + suc (length ys) = omega arith in z)

pub each_some-more : {X Y : Type 0} (f : ℕ → X → List Y) (xs : List X) (c : ℕ) (x : X) → c < length xs → x ≡ get_or xs c x
    → each_some f 0 (take (c + 1) xs) ≡ each_some f 0 (take c xs) ++ f c x
each_some-more f xs c x l e =
    ap (each_some f 0) (take-more_read xs c x l e) ∙ each_some-push f 0 (take c xs) x
    ∙ ap (λ n. each_some f 0 (take c xs) ++ f n x)
    (let k = length-take-le c xs (omega (arith, l)) in let z : 0 + length (take c xs) ≡ c = omega (arith, k) in z)

pub upto-push : (f : ℕ → ℕ) (k n : ℕ) → upto f k (n + 1) ≡ upto f k n ++ f (k + n) ∷ []
upto-push f k zero = ap (λ i. f i ∷ []) (let z : k ≡ k + 0 = omega arith in z)
upto-push f k (suc n) =
    ap (upto f k) (let z : suc n + 1 ≡ suc (n + 1) = omega arith in z)
    ∙ ap (λ ys. f k ∷ ys)
    (upto-push f (k + 1) n ∙ ap (λ i. upto f (k + 1) n ++ f i ∷ []) (let z : k + 1 + n ≡ k + suc n = omega arith in z))

pub length-upto : (f : ℕ → ℕ) (k n : ℕ) → length (upto f k n) ≡ n
length-upto f k zero = refl
length-upto f k (suc n) = ap suc (length-upto f (k + 1) n)

pub upto-at : (f : ℕ → ℕ) (k n i : ℕ) → i < n → get_or (upto f k n) i 0 ≡ f (k + i)
upto-at f k zero i l = absurd (omega (arith, l))
upto-at f k (suc n) zero l = ap f (let z : k ≡ k + 0 = omega arith in z)
upto-at f k (suc n) (suc i) l =
    upto-at f (k + 1) n i (omega (arith, l)) ∙ ap f (let z : k + 1 + i ≡ k + suc i = omega arith in z)

-- ---- how many there are
pub counted-more : (f : Channel → ℕ) (channels : List Channel) (c : ℕ) (x : Channel) → c < length channels → x ≡ get_or channels c x
    → sum_by f (take (c + 1) channels) ≡ sum_by f (take c channels) + f x
counted-more f channels c x l e = ap (sum_by f) (take-more_read channels c x l e) ∙ sum_by_push f (take c channels) x

pub counted-within : (f : Channel → ℕ) (channels : List Channel) (c : ℕ) (x : Channel) → c < length channels → x ≡ get_or channels c x
    → sum_by f (take c channels) + f x ≤ sum_by f channels
counted-within f channels c x l e =
    let m = counted-more f channels c x l e in
    let w = sum_by-take-le f channels (c + 1) in
    omega (arith, m, w)

-- ---- zeros
pub zeros-add : (m n : ℕ) → replicate {A = ℕ} m 0 ++ replicate n 0 ≡ replicate (m + n) 0
zeros-add zero n = ap (λ k. replicate k 0) (let z : n ≡ 0 + n = omega arith in z)
zeros-add (suc m) n =
    ap (λ xs. 0 ∷ xs) (zeros-add m n) ∙ ap (λ k. replicate k 0) (let z : suc (m + n) ≡ suc m + n = omega arith in z)

pub zeros-push : (pins new : List ℕ) (x : Channel) (xs : List Channel) (all : List ℕ) → new ≡ pins ++ replicate (input_count x) 0
    → pins ++ replicate (inputs_count (x ∷ xs)) 0 ≡ all → new ++ replicate (inputs_count xs) 0 ≡ all
zeros-push pins new x xs all n h =
    ap (λ ys. ys ++ replicate (inputs_count xs) 0) n
    ∙ append_assoc pins (replicate (input_count x) 0) (replicate (inputs_count xs) 0)
    ∙ ap (λ ys. pins ++ ys) (zeros-add (input_count x) (inputs_count xs))
    ∙ ap (λ k. pins ++ replicate k 0) (sym (sum_by-cons input_count x xs)) ∙ h

pub zeros-more : (pins new : List ℕ) (channels : List Channel) (c : ℕ) (x : Channel) (all : List ℕ) → c < length channels
    → x ≡ get_or channels c x → new ≡ pins ++ replicate (input_count x) 0
    → pins ++ replicate (inputs_count (drop c channels)) 0 ≡ all → new ++ replicate (inputs_count (drop (c + 1) channels)) 0 ≡ all
zeros-more pins new channels c x all l ex n h =
    zeros-push pins new x (drop (c + 1) channels) all n
    (ap (λ y. pins ++ replicate (inputs_count (y ∷ drop (c + 1) channels)) 0) ex
    ∙ sym (at_drop_more (λ ys. pins ++ replicate (inputs_count ys) 0) channels c x l) ∙ h)

-- ---- entering
take-replaced : (pins ys : List ℕ) (at : ℕ) → at ≤ length pins → take (at + length ys) (replaced pins at ys) ≡ take at pins ++ ys
take-replaced pins ys at l =
    take_at (take at pins ++ ys) (drop (at + length ys) pins) (at + length ys)
    (length-append (take at pins) ys ∙ ap (λ n. n + length ys) (length-take-le at pins l))

pub entered-long : (row : Row) (c : ℕ) (content : List ℕ) (x : Channel) (dir : Dir) → length content ≡ length x.widths
    → length (entered_inputs row c content dir) ≡ 1 + side_count x dir
entered-long row c content x Inward e = omega (arith, e)
entered-long row c content x Outward e = refl

-- the first inputs and those of the channels below c are entered
pub record AreEntered (channels : List Channel) (row : Row) (first : ℕ) (old pins : List ℕ) (c at : ℕ) : Type 0 where
  pub place : at ≡ first + inputs_count (take c channels)
  pub done : take at pins ≡ take first old ++ each_some (channel_inputs channels row) 0 (take c channels)

pub enter-none : (channels : List Channel) (row : Row) (first : ℕ) (pins : List ℕ) → AreEntered channels row first pins pins 0 first
enter-none channels row first pins = record {
  place = omega arith;
  done = sym (append-nil (take first pins));
}

pub enter-more : (channels : List Channel) (row : Row) (first : ℕ) (old pins new content : List ℕ) (c at next : ℕ) (x : Channel)
    → c < length channels → x ≡ get_or channels c x → content ≡ content_at channels row.contents c → length content ≡ length x.widths
    → at + input_count x ≤ length pins → new ≡ replaced pins at (entered_inputs row c content x.dir) → next ≡ at + input_count x
    → AreEntered channels row first old pins c at → AreEntered channels row first old new (c + 1) next
enter-more channels row first old pins new content c at next x l ex ec long room en e are =
    let ys = entered_inputs row c content x.dir in
    let f = channel_inputs channels row in
    let n : length ys ≡ input_count x = entered-long row c content x x.dir long in
    let p = are.place in
    let m = counted-more input_count channels c x l ex in
    let to : next ≡ at + length ys = omega (arith, e, n) in
    record {
      place = omega (arith, p, m, e);
      done =
          ap (λ k. take k new) to ∙ ap (take (at + length ys)) en ∙ take-replaced pins ys at (omega (arith, room))
          ∙ ap (λ zs. zs ++ ys) are.done ∙ append_assoc (take first old) (each_some f 0 (take c channels)) ys
          ∙ ap (λ zs. take first old ++ (each_some f 0 (take c channels) ++ entered_inputs row c zs x.dir)) ec
          ∙ ap (λ zs. take first old ++ zs) (sym (each_some-more f channels c x l ex));
    }

pub enter-done : (channels : List Channel) (row : Row) (first : ℕ) (old pins : List ℕ) (c at : ℕ) → length channels ≤ c
    → length pins ≡ first + inputs_count channels → AreEntered channels row first old pins c at
    → pins ≡ take first old ++ each_some (channel_inputs channels row) 0 channels
enter-done channels row first old pins c at l long are =
    let all = take_all c channels l in
    let p = are.place in
    let q : inputs_count (take c channels) ≡ inputs_count channels = ap inputs_count all in
    sym (take_all at pins (omega (arith, p, q, long))) ∙ are.done
    ∙ ap (λ cs. take first old ++ each_some (channel_inputs channels row) 0 cs) all

-- ---- reading
pub raised-is : (channels : List Channel) (out : List ℕ) (spot : Spot) (c at place : ℕ) (x : Channel) → c < length channels
    → x ≡ get_or channels c x → at ≡ outputs_count (take c channels) → place ≡ at + spot_place spot x
    → (get_or out place 0 == 1) ≡ is_raised channels out spot c
raised-is channels out spot c at place x l ex e p =
    ap (λ k. get_or out k 0 == 1)
    (p ∙ ap (λ s. s + spot_place spot x) e
    ∙ ap (λ o. outputs_count (take c channels) + spot_in spot o) (sym (slice_get_read channels (length channels) c x refl l ex)))

pub chosen-is : (channels : List Channel) (inward outward c : ℕ) (x : Channel) → c < length channels → x ≡ get_or channels c x
    → chosen_on inward outward c x.dir ≡ is_chosen channels inward outward c
chosen-is channels inward outward c x l ex =
    ap (chosen_in inward outward c) (sym (slice_get_read channels (length channels) c x refl l ex))

pub read-more : (contents now new out : List ℕ) (at port i y : ℕ) → at + i < length contents → y ≡ get_or out (port + i) 0
    → now ≡ replaced contents at (upto (λ k. get_or out k 0) port i) → new ≡ set now (at + i) y
    → new ≡ replaced contents at (upto (λ k. get_or out k 0) port (i + 1))
read-more contents now new out at port i y room ey n w =
    let ys = upto (λ k. get_or out k 0) port i in
    let long : length ys ≡ i = length-upto (λ k. get_or out k 0) port i in
    replaced-more contents ys now new at y (omega (arith, long, room)) n (w ∙ ap (λ k. set now (at + k) y) (sym long))
    ∙ ap (λ z. replaced contents at (ys ++ z ∷ [])) ey
    ∙ ap (replaced contents at) (sym (upto-push (λ k. get_or out k 0) port i))

-- ---- the contents of all channels
pub count-most : (x : Channel) (dir : Dir) → content_count x dir ≤ length x.widths
count-most x Inward = omega arith
count-most x Outward = omega arith

module _ (channels : List Channel) (offers : Offers) (out : List ℕ) where
  made-at : (c : ℕ) (x : Channel) → c < length channels → x ≡ get_or channels c x
      → made_content channels offers out c ≡ made_on channels offers out c x x.dir
  made-at c x l ex = ap (made_in channels offers out c) (slice_get_read channels (length channels) c x refl l ex)

  -- the contents are filled as far as channel c, whose outputs begin at this place
  pub record AreFilled (contents : List ℕ) (c at place : ℕ) : Type 0 where
    pub first : at ≡ first_of channels c
    pub seat_is : place ≡ seat channels c
    pub front : length (joined (made_content channels offers out) 0 (take c channels)) ≡ at
    pub filled_is : contents ≡ joined (made_content channels offers out) 0 (take c channels) ++ drop at offers.contents

  part : (c : ℕ) (x : Channel) (dir : Dir) (at : ℕ) (front contents : List ℕ)
      → (dir ≡ Inward → content_at channels offers.contents c ≡ take (length x.widths) (drop at offers.contents))
      → at + length x.widths ≤ length offers.contents → length front ≡ at → contents ≡ front ++ drop at offers.contents
      → (replaced contents at (upto (λ k. get_or out k 0) (seat channels c + 1) (content_count x dir))
      ≡ front ++ made_on channels offers out c x dir ++ drop (at + length x.widths) offers.contents)
      × (length (made_on channels offers out c x dir) ≡ length x.widths)
  part c x Inward at front contents inward room long is =
      let n = inward refl in
      let k = length x.widths in
      let rest = drop at offers.contents in (
        sym (replaced-none contents at) ∙ is ∙ ap (λ xs. front ++ xs) (sym (take-append-drop k rest))
            ∙ sym (append_assoc front (take k rest) (drop k rest))
            ∙ ap (λ xs. front ++ take k rest ++ xs) (drop-drop k at offers.contents)
            ∙ ap (λ xs. front ++ xs ++ drop (at + k) offers.contents) (sym n),
        ap length n ∙ length-take-le k rest (let d = length-drop at offers.contents in omega (arith, d, room)),
      )
  part c x Outward at front contents inward room long is =
      let numbers = upto (λ k. get_or out k 0) (seat channels c + 1) (length x.widths) in
      let rest = drop at offers.contents in
      let count : length numbers ≡ length x.widths = length-upto (λ k. get_or out k 0) (seat channels c + 1) (length x.widths) in (
        ap (λ xs. take at xs ++ numbers ++ drop (at + length numbers) xs) is
            ∙ ap (λ xs. xs ++ numbers ++ drop (at + length numbers) (front ++ rest)) (take_at front rest at long)
            ∙ ap (λ xs. front ++ numbers ++ xs) (sym (drop-drop (length numbers) at (front ++ rest)))
            ∙ ap (λ xs. front ++ numbers ++ drop (length numbers) xs) (drop_at front rest at long)
            ∙ ap (λ xs. front ++ numbers ++ xs) (drop-drop (length numbers) at offers.contents)
            ∙ ap (λ n. front ++ numbers ++ drop (at + n) offers.contents) count,
        count,
      )

  pub fill-none : (contents : List ℕ) → contents ≡ offers.contents → AreFilled contents 0 0 0
  fill-none contents e = record { first = refl; seat_is = refl; front = refl; filled_is = e }

  pub fill-more : (contents new : List ℕ) (c at next place seat_next count : ℕ) (x : Channel) → Fit (all_widths channels) offers.contents
      → c < length channels → x ≡ get_or channels c x → count ≡ content_count x x.dir → AreFilled contents c at place
      → new ≡ replaced contents at (upto (λ k. get_or out k 0) (place + 1) count) → next ≡ at + length x.widths
      → seat_next ≡ place + (3 + count) → AreFilled new (c + 1) next seat_next
  fill-more contents new c at next place seat_next count x fit l ex ek are n e s =
      let f = made_content channels offers out in
      let k = length x.widths in
      let front = joined f 0 (take c channels) in
      let here = made-at c x l ex in
      let more : joined f 0 (take (c + 1) channels) ≡ front ++ made_on channels offers out c x x.dir =
      joined-more f channels c x l ex ∙ ap (λ xs. front ++ xs) here in
      let first = are.first in
      let within : at + k ≤ length offers.contents = (let w = first-within channels offers.contents c x fit l ex in omega (arith, w, first)) in
      let p = part c x x.dir at front contents
      (λ way. content-read channels offers.contents c x l ex ∙ ap (λ a. take k (drop a offers.contents)) (sym first))
      within are.front are.filled_is in
      let m = counted-more output_count channels c x l ex in
      let q = are.seat_is in
      record {
        first = (let g = first-more channels c x l ex in omega (arith, g, first, e));
        seat_is = omega (arith, m, q, s, ek);
        front = ap length more ∙ length-append front (made_on channels offers out c x x.dir)
            ∙ (let a = p.1 in let b = are.front in let z : length front + length (made_on channels offers out c x x.dir) ≡ next =
            omega (arith, a, b, e) in z);
        filled_is =
            n ∙ ap (λ j. replaced contents at (upto (λ k. get_or out k 0) (j + 1) count)) q
            ∙ ap (λ j. replaced contents at (upto (λ k. get_or out k 0) (seat channels c + 1) j)) ek ∙ p.0
            ∙ ap (λ xs. xs ++ drop (at + k) offers.contents) (sym more)
            ∙ ap (λ a. joined f 0 (take (c + 1) channels) ++ drop a offers.contents) (sym e);
      }

  pub fill-done : (contents : List ℕ) (c at place : ℕ) → Fit (all_widths channels) offers.contents → length channels ≤ c
      → AreFilled contents c at place → contents ≡ joined (made_content channels offers out) 0 channels
  fill-done contents c at place fit l are =
      let f = made_content channels offers out in
      let all = take_all c channels l in
      let past : length offers.contents ≤ at =
      (let p = are.first in let a : first_of channels c ≡ length (all_widths channels) = ap (λ cs. length (all_widths cs)) all in
      let b = fit-length (all_widths channels) offers.contents fit in omega (arith, p, a, b)) in
      are.filled_is ∙ ap (λ cs. joined f 0 cs ++ drop at offers.contents) all
      ∙ ap (λ xs. joined f 0 channels ++ xs) (drop_all at offers.contents past) ∙ append-nil (joined f 0 channels)
