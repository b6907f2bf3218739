-- A row that is read from outputs, channel by channel.
use Rattle.std.proofs.Common.{◌≡◌, ℕ, zero, suc, ◌+◌, ◌-◌, ◌*◌, ◌<◌, ◌≤◌, ◌^◌, ◌&&◌, not, Bool, true, false, cond, eqb, List, [], ◌∷◌}
use Rattle.std.proofs.Common.{◌++◌, Option, Some, refl, sym, ap, ◌∙◌, arith, length, take, drop, get_or, slice_get, replicate, append_assoc}
use Rattle.std.proofs.Common.{⊎_elim}
use Rattle.std.specs.Int.{bit_at}
use Rattle.std.specs.Prelude.{bit_and}
use Rattle.std.proofs.lemmas.Bool.{cases_lt}
use Rattle.std.proofs.lemmas.List.{append-nil, length-append, length-replicate, length-take-le, length-drop, take_all, take_at, drop_at, drop-drop}
use Rattle.std.proofs.lemmas.List.{drop_all, get_or-take, get_or-drop, take-append-drop}
use Rattle.std.proofs.lemmas.Option.{slice_get_read}
use Rattle.net_sim.specs.vidi_bits.Number.{has}
use Rattle.net_sim.proofs.vidi_bits_lemmas.BitLemmas.{has-above}
use Rattle.replay_run.specs.trace_model.declared.channel.Channel.{Channel}
use Rattle.replay_run.specs.trace_model.declared.channel.Dir.{Dir}
use Rattle.replay_run.specs.trace_model.declared.channel.Dir.TheVariants.{Inward, Outward}
use Rattle.replay_run.specs.trace_model.declared.row.Row.{Row}
use Rattle.replay_run.specs.trace_model.Packet.{Fit, widths_of}
use Rattle.replay_run.specs.trace_model.Row.{all_widths, content_at, replaced}
use Rattle.replay_run.proofs.trace_model_lemmas.ContentsLemmas.{fit-length}
use Rattle.replay_run.proofs.trace_model_lemmas.MaskLemmas.{bit-from-has, no-bit-from-has, bit_at-without}
use Rattle.replay_run.proofs.trace_model_lemmas.RowLemmas.{first_of, first-more, first-within, content-read}
use Rattle.replay_run.specs.run_model.Building.{mask_of, joined}
use Rattle.replay_run.specs.run_model.Offers.{no_content}
use Rattle.replay_run.proofs.run_model_lemmas.Contents.{mask-more, mask-below, has-mask, same-masks}
use Rattle.replay_run.proofs.run_model_lemmas.JoinedLaws.{joined-more}
use Rattle.shim_cosim.specs.declared.shown_row.Signal.{Signal}
use Rattle.shim_cosim.specs.Rewrapped.{if_outward, output_count, outputs_count, seat, place_of, is_raised, content_on, content_of, contents_of, filled}
use Rattle.shim_cosim.specs.Rewrapped.{flight_of}
use Rattle.shim_cosim.proofs.FedInputs.{sum_more, sum_front}

-- ---- the outputs of a channel
module _ (channels : List Channel) (out : List ℕ) (long : length out ≡ outputs_count channels) (c : ℕ) (x : Channel)
    (l : c < length channels) (e : x ≡ get_or channels c x) where
  pub seat_more : seat channels (c + 1) ≡ seat channels c + output_count x
  seat_more = sum_more output_count channels c x l e

  pub outputs_within : seat channels c + output_count x ≤ length out
  outputs_within =
      let m = seat_more in
      let f = sum_front output_count channels (c + 1) in
      omega (arith, m, f, long)

  module _ (rest : List ℕ) (is : rest ≡ drop (seat channels c) out) where
    pub rest_long : output_count x ≤ length rest
    rest_long =
        let w = outputs_within in
        let d = length-drop (seat channels c) out in
        let r = ap length is in
        omega (arith, w, d, r)

    pub after_is : (after : List ℕ) → after ≡ drop (output_count x) rest → after ≡ drop (seat channels (c + 1)) out
    after_is after a =
        a ∙ ap (drop (output_count x)) is ∙ drop-drop (output_count x) (seat channels c) out ∙ ap (λ k. drop k out) (sym seat_more)

    pub own_is : (own : List ℕ) (k : ℕ) → own ≡ take (output_count x) rest → k < output_count x → get_or own k 0 ≡ get_or out (seat channels c + k) 0
    own_is own k o m =
        ap (λ xs. get_or xs k 0) o ∙ get_or-take (output_count x) rest k 0 m ∙ ap (λ xs. get_or xs k 0) is ∙ get_or-drop (seat channels c) out k 0

    pub own_long : (own : List ℕ) → own ≡ take (output_count x) rest → length own ≡ output_count x
    own_long own o = ap length o ∙ length-take-le (output_count x) rest rest_long

signal_small : (x : Channel) (k : ℕ) → k < 3 → k < output_count x
signal_small x k l = omega (arith, l)

-- one more channel's signal
pub raised_more : (channels : List Channel) (out rest own : List ℕ) (signal : Signal) (c : ℕ) (x : Channel) (mask new k y : ℕ) (up : Bool)
    → length out ≡ outputs_count channels → c < length channels → x ≡ get_or channels c x → rest ≡ drop (seat channels c) out
    → own ≡ take (output_count x) rest → k ≡ place_of signal → k < 3 → y ≡ get_or own k 0 → up ≡ eqb y 1
    → new ≡ cond up 1 0 * 2 ^ c + mask → mask ≡ mask_of (is_raised channels out signal) c
    → new ≡ mask_of (is_raised channels out signal) (c + 1)
raised_more channels out rest own signal c x mask new k y up long l e is o ke few ye u n m =
    mask-more (is_raised channels out signal) c up mask new
    (u ∙ ap (λ z. eqb z 1)
    (ye ∙ own_is channels out long c x l e rest is own k o (signal_small x k few) ∙ ap (λ i. get_or out (seat channels c + i) 0) ke)) n m

-- ---- contents
module _ (channels : List Channel) (valids : ℕ) (fed out : List ℕ) where
  abbrev f : ℕ → List ℕ
  f c = content_of channels valids fed out c (slice_get channels c)

  pub record AreFilled (contents : List ℕ) (c at : ℕ) (rest : List ℕ) : Type 0 where
    pub place : at ≡ first_of channels c
    pub front : length (joined (λ k. content_of channels valids fed out k (slice_get channels k)) 0 (take c channels)) ≡ at
    pub is : contents ≡ joined (λ k. content_of channels valids fed out k (slice_get channels k)) 0 (take c channels) ++ drop at fed
    pub rest_is : rest ≡ drop (seat channels c) out

  pub filled_none : (contents rest : List ℕ) → contents ≡ fed → rest ≡ out → AreFilled contents 0 0 rest
  filled_none contents rest e r = record { place = refl; front = refl; is = e; rest_is = r }

  -- numbers in place of the first ones behind a front
  in_place : (front contents numbers : List ℕ) (at k : ℕ) → length front ≡ at → contents ≡ front ++ drop at fed → length numbers ≡ k
      → replaced contents at numbers ≡ front ++ numbers ++ drop (at + k) fed
  in_place front contents numbers at k long is count =
      let rest = drop at fed in
      ap (λ xs. take at xs ++ numbers ++ drop (at + length numbers) xs) is
      ∙ ap (λ xs. xs ++ numbers ++ drop (at + length numbers) (front ++ rest)) (take_at front rest at long)
      ∙ ap (λ xs. front ++ numbers ++ xs) (sym (drop-drop (length numbers) at (front ++ rest)))
      ∙ ap (λ xs. front ++ numbers ++ drop (length numbers) xs) (drop_at front rest at long)
      ∙ ap (λ xs. front ++ numbers ++ xs) (drop-drop (length numbers) at fed)
      ∙ ap (λ n. front ++ numbers ++ drop (at + n) fed) count

  kept : (front contents : List ℕ) (at k : ℕ) → contents ≡ front ++ drop at fed → contents ≡ front ++ take k (drop at fed) ++ drop (at + k) fed
  kept front contents at k is =
      is ∙ ap (λ xs. front ++ xs) (sym (take-append-drop k (drop at fed)))
      ∙ sym (append_assoc front (take k (drop at fed)) (drop k (drop at fed)))
      ∙ ap (λ xs. front ++ take k (drop at fed) ++ xs) (drop-drop k at fed)

  module _ (fit : Fit (all_widths channels) fed) (long : length out ≡ outputs_count channels) (c at : ℕ) (contents rest : List ℕ)
      (are : AreFilled contents c at rest) (x : Channel) (l : c < length channels) (e : x ≡ get_or channels c x) where
    abbrev ports : ℕ
    ports = length x.widths

    abbrev front : List ℕ
    front = joined (λ k. content_of channels valids fed out k (slice_get channels k)) 0 (take c channels)

    there : slice_get channels c ≡ Some x
    there = slice_get_read channels (length channels) c x refl l e

    pub room : at + length x.widths ≤ length fed
    room = (let w = first-within channels fed c x fit l e in let p = are.place in omega (arith, w, p))

    fed_long : length (take (length x.widths) (drop at fed)) ≡ length x.widths
    fed_long = length-take-le ports (drop at fed) (let d = length-drop at fed in let r = room in omega (arith, d, r))

    fed_is : content_at channels fed c ≡ take (length x.widths) (drop at fed)
    fed_is = content-read channels fed c x l e ∙ ap (λ a. take ports (drop a fed)) (sym are.place)

    none_is : no_content channels c ≡ replicate (length x.widths) 0
    none_is = ap (λ (o : Option Channel). replicate (length (widths_of o)) 0) there

    record Part (new numbers : List ℕ) : Type 0 where
      is : new ≡ front ++ numbers ++ drop (at + ports) fed
      many : length numbers ≡ ports

    inward_part : (b : Bool) → Part (cond b contents (replaced contents at (replicate (length x.widths) 0)))
        (cond b (content_at channels fed c) (no_content channels c))
    inward_part true = record {
      is = kept front contents at ports are.is ∙ ap (λ xs. front ++ xs ++ drop (at + ports) fed) (sym fed_is);
      many = ap length fed_is ∙ fed_long;
    }
    inward_part false = record {
      is = in_place front contents (replicate ports 0) at ports are.front are.is (length-replicate ports 0)
          ∙ ap (λ xs. front ++ xs ++ drop (at + ports) fed) (sym none_is);
      many = ap length none_is ∙ length-replicate ports 0;
    }

    part : (dir : Dir) (own : List ℕ) → x.dir ≡ dir → own ≡ take (output_count x) rest
        → Part (filled dir (has valids c) own at (length x.widths) contents) (content_on channels valids fed out c x.widths dir)
    part Inward own way o = inward_part (has valids c)
    part Outward own way o =
        let count : output_count x ≡ 3 + ports = ap (λ d. 3 + length (if_outward x.widths d)) way in
        let shown : drop 3 own ≡ take ports (drop (seat channels c + 3) out) =
        ap (drop 3) (o ∙ ap (λ k. take k rest) count) ∙ behind 3 ports (3 + ports) rest refl
        ∙ ap (λ xs. take ports (drop 3 xs)) are.rest_is ∙ ap (take ports) (drop-drop 3 (seat channels c) out) in
        let many : length (drop 3 own) ≡ ports =
        (let a = own_long channels out long c x l e rest are.rest_is own o in
        let d = length-drop 3 own in
        omega (arith, a, d, count)) in
        record {
          is = in_place front contents (drop 3 own) at ports are.front are.is many ∙ ap (λ xs. front ++ xs ++ drop (at + ports) fed) shown;
          many = ap length (sym shown) ∙ many;
        }
      where
        behind : (k n m : ℕ) (xs : List ℕ) → m ≡ k + n → drop k (take m xs) ≡ take n (drop k xs)
        behind zero n m xs e = (let same : m ≡ n = omega (arith, e) in ap (λ j. take j xs) same)
        behind (suc k) n zero xs e = absurd (omega (arith, e))
        behind (suc k) n (suc m) [] e = nothing n where
          nothing : (n : ℕ) → [] ≡ take {A = ℕ} n []
          nothing zero = refl
          nothing (suc n) = refl
        behind (suc k) n (suc m) (y ∷ xs) e = behind k n m xs (omega (arith, e))

    pub filled_more : (own new after : List ℕ) (next : ℕ) → own ≡ take (output_count x) rest
        → new ≡ filled x.dir (has valids c) own at (length x.widths) contents → next ≡ at + length x.widths
        → after ≡ drop (output_count x) rest → AreFilled new (c + 1) next after
    filled_more own new after next o n step behind =
        let p = part x.dir own refl o in
        let here : content_of channels valids fed out c (slice_get channels c) ≡ content_on channels valids fed out c x.widths x.dir =
        ap (content_of channels valids fed out c) there in
        let more : joined (λ k. content_of channels valids fed out k (slice_get channels k)) 0 (take (c + 1) channels)
        ≡ front ++ content_on channels valids fed out c x.widths x.dir =
        joined-more (λ k. content_of channels valids fed out k (slice_get channels k)) channels c x l e ∙ ap (λ xs. front ++ xs) here in
        let place = are.place in
        let first = first-more channels c x l e in
        let many = p.many in
        let so_far = are.front in
        record {
          place = omega (arith, place, first, step);
          front = ap length more ∙ length-append front (content_on channels valids fed out c x.widths x.dir) ∙ omega (arith, many, so_far, step);
          is = n ∙ p.is
              ∙ ap (λ xs. xs ++ drop (at + ports) fed) (sym more)
              ∙ ap (λ a. joined (λ k. content_of channels valids fed out k (slice_get channels k)) 0 (take (c + 1) channels) ++ drop a fed) (sym step);
          rest_is = after_is channels out long c x l e rest are.rest_is after behind;
        }

  pub filled_done : (contents rest : List ℕ) (c at : ℕ) → Fit (all_widths channels) fed → length channels ≤ c → AreFilled contents c at rest
      → contents ≡ contents_of channels valids fed out
  filled_done contents rest c at fit l are =
      let all = take_all c channels l in
      let place = are.place in
      let whole : first_of channels c ≡ length (all_widths channels) = ap (λ cs. length (all_widths cs)) all in
      let long = fit-length (all_widths channels) fed fit in
      are.is ∙ ap (λ cs. joined (λ k. content_of channels valids fed out k (slice_get channels k)) 0 cs ++ drop at fed) all
      ∙ ap (λ xs. contents_of channels valids fed out ++ xs) (drop_all at fed (omega (arith, place, whole, long)))
      ∙ append-nil (contents_of channels valids fed out)

-- ---- masks
bit_less : (a b : Bool) (m n k : ℕ) → m ≡ cond a 1 0 → n ≡ cond b 1 0 → k ≡ m - n → eqb k 1 ≡ (a && not b)
bit_less true true m n k x y z = ap (λ q. eqb q 1) (z ∙ ap (λ q. q - n) x ∙ ap (λ q. 1 - q) y)
bit_less true false m n k x y z = ap (λ q. eqb q 1) (z ∙ ap (λ q. q - n) x ∙ ap (λ q. 1 - q) y)
bit_less false true m n k x y z = ap (λ q. eqb q 1) (z ∙ ap (λ q. q - n) x ∙ ap (λ q. 0 - q) y)
bit_less false false m n k x y z = ap (λ q. eqb q 1) (z ∙ ap (λ q. q - n) x ∙ ap (λ q. 0 - q) y)

bit_by : (mask c : ℕ) (b : Bool) → has mask c ≡ b → bit_at mask c ≡ cond b 1 0
bit_by mask c true h = bit-from-has mask c h
bit_by mask c false h = no-bit-from-has mask c h

pub has_without : (a b r : ℕ) → a < 2 ^ 128 → b < 2 ^ 128 → r ≡ bit_and a (2 ^ 128 - 1 - b) → (c : ℕ) → has r c ≡ (has a c && not (has b c))
has_without a b r la lb e c =
    bit_less (has a c) (has b c) (bit_at a c) (bit_at b c) (bit_at r c) (bit_by a c (has a c) refl) (bit_by b c (has b c) refl)
    (ap (λ m. bit_at m c) e ∙ bit_at-without a b la lb c)

-- the mask with such bits
pub mask_is : (n r : ℕ) (g : ℕ → Bool) → ((c : ℕ) → c < n → has r c ≡ g c) → ((c : ℕ) → n ≤ c → has r c ≡ false) → r ≡ mask_of g n
mask_is n r g below above = same-masks r (mask_of g n) (λ c. ⊎_elim
    (λ (l : c < n). below c l ∙ sym (has-mask g n c l))
    (λ (l : n ≤ c). above c l ∙ sym (has-above (mask_of g n) n c (mask-below g n) l))
    (cases_lt c n))

down : (a b : Bool) → a ≡ false → (a && b) ≡ false
down true b e = (cc)
down false b e = refl

pub starts_are : (n flight valids r : ℕ) (f : ℕ → Bool) → valids ≡ mask_of f n → ((c : ℕ) → has r c ≡ (has valids c && not (has flight c)))
    → r ≡ mask_of (λ c. f c && not (has flight c)) n
starts_are n flight valids r f v each =
    mask_is n r (λ c. f c && not (has flight c))
    (λ c l. each c ∙ ap (λ b. b && not (has flight c)) (ap (λ m. has m c) v ∙ has-mask f n c l))
    (λ c l. each c ∙ down (has valids c) (not (has flight c)) (ap (λ m. has m c) v ∙ has-above (mask_of f n) n c (mask-below f n) l))

pub flight_is : (n : ℕ) (row : Row) (r : ℕ) → row.valids < 2 ^ n → ((c : ℕ) → has r c ≡ (has row.valids c && not (has row.readies c)))
    → r ≡ flight_of n row
flight_is n row r small each =
    mask_is n r (λ c. has row.valids c && not (has row.readies c)) (λ c l. each c)
    (λ c l. each c ∙ down (has row.valids c) (not (has row.readies c)) (has-above row.valids n c small l))
