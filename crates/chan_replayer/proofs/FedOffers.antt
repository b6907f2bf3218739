-- The offers that replayers make of a feed, channel by channel.
use Rattle.std.proofs.Common.{◌≡◌, ℕ, ◌+◌, ◌-◌, ◌*◌, ◌^◌, ◌<◌, ◌≤◌, Bool, true, false, cond, eqb, List, ◌++◌, Option, Some}
use Rattle.std.proofs.Common.{length, take, drop, get_or, replicate, slice_get, ⊎_elim, refl, ap, sym, subst, ◌∙◌, append_assoc, arith}
use Rattle.std.proofs.Common.{◌≢◌, suc}
use Rattle.std.specs.Prelude.{◌↔◌}
use Rattle.std.specs.Int.{bit_at}
use Rattle.std.proofs.Math.Nat.{pow-le-pow_right}
use Rattle.std.proofs.lemmas.Bool.{cases_Bool, cases_eq, cases_lt, cond-true, cond-false}
use Rattle.std.proofs.lemmas.List.{append-nil, drop_all, drop_at, drop-drop, length-append, length-drop}
use Rattle.std.proofs.lemmas.List.{length-replicate, length-take-le, take-append-drop, take_all, take_at}
use Rattle.std.proofs.lemmas.Nat.{pow_pos}
use Rattle.std.proofs.lemmas.Nat.Bits.{bit_at_above, bit_at_cat_high, bit_at_cat_low, bit_at-zero}
use Rattle.std.proofs.lemmas.Option.{same_Some, slice_get_read}
use Rattle.vec_clock.specs.vidi_bits.Number.{has}
use Rattle.vec_clock.specs.trace_model.declared.channel.Channel.{Channel}
use Rattle.vec_clock.specs.trace_model.declared.channel.Dir.{Dir}
use Rattle.vec_clock.specs.trace_model.declared.channel.Dir.TheVariants.{Inward, Outward}
use Rattle.vec_clock.specs.trace_model.declared.row.Offers.{Offers}
use Rattle.vec_clock.specs.trace_model.Clock.{Covers}
use Rattle.vec_clock.specs.trace_model.Packet.{Fit, widths_of}
use Rattle.vec_clock.specs.trace_model.Row.{all_widths, content_at, replaced}
use Rattle.vec_clock.specs.trace_model.Mask.{IsLowest}
use Rattle.vec_clock.proofs.trace_model_lemmas.MaskLemmas.{bit-from-has, has-from-bit}
use Rattle.vec_clock.proofs.trace_model_lemmas.ContentsLemmas.{fit-length}
use Rattle.vec_clock.proofs.trace_model_lemmas.RowLemmas.{first_of, first-more, first-within, content-read}
use Rattle.chan_monitor.specs.run_model.Building.{joined}
use Rattle.chan_monitor.specs.run_model.Offers.{no_content}
use Rattle.chan_monitor.proofs.run_model_lemmas.Contents.{content-fits, content-joined, fit-joined, fit-zeros}
use Rattle.chan_monitor.proofs.run_model_lemmas.JoinedLaws.{joined-more}
use Rattle.chan_replayer.specs.declared.feed.Feed.{Feed}
use Rattle.chan_replayer.specs.Feed.{need_of, IsFeedOver, IsUp}
use Rattle.chan_replayer.specs.Fed.{fed_content, AreFed, AreOffered}
use Rattle.chan_replayer.specs.Needs.{clock_at}
use Rattle.chan_replayer.proofs.Sharing.{number-at}

-- ---- one channel's clock in a feed
pub up-is : (n : ℕ) (feed : Feed) (have : List ℕ) (c : ℕ) (r : Bool) → length have ≡ n
    → ((r ≡ true) ↔ ((has feed.more c ≡ true) × Covers (length have) (λ d. get_or have d 0) (λ d. get_or (clock_at (length have) feed.needs c) d 0)))
    → (r ≡ true) ↔ IsUp n feed (λ d. get_or have d 0) c
up-is n feed have c r long says =
    let at : (d : ℕ) → d < length have → get_or (clock_at (length have) feed.needs c) d 0 ≡ need_of n feed c d =
    λ d l. number-at (length have) feed.needs c d l ∙ ap (λ m. get_or feed.needs (m * c + d) 0) long in (
      λ t. (let p = says.0 t in (p.0, λ d l. (let m : d < length have = omega (arith, l, long) in let a = at d m in let b = p.1 d m in omega (arith, a, b)))),
      λ (u : IsUp n feed (λ d. get_or have d 0) c).
          says.1 (u.0, λ d l. (let a = at d l in let b = u.1 d (omega (arith, l, long)) in omega (arith, a, b))),
    )

-- ---- a mask of the channels of a direction
-- Those of `left` are up, and are still to be looked at.
pub record AreMarked (channels : List Channel) (dir : Dir) (up : ℕ → Type 0) (left mask : ℕ) : Type 0 where
  pub there : (d : ℕ) → bit_at left d ≡ 1 → (d < length channels) × up d
  pub low : (d : ℕ) → bit_at left d ≡ 1 → mask < 2 ^ d
  pub below : mask < 2 ^ length channels
  pub each : (d : ℕ) (x : Channel) → slice_get channels d ≡ Some x → bit_at left d ≡ 0 → (has mask d ≡ true) ↔ ((x.dir ≡ dir) × up d)

pub one-below : (b : Bool) (c mask : ℕ) → mask < 2 ^ c → cond b 1 0 * 2 ^ c + mask < 2 ^ suc c
one-below true c mask l = let p : 2 ^ suc c ≡ 2 ^ c + 2 ^ c = omega arith in omega (arith, p, l)
one-below false c mask l = let p : 2 ^ suc c ≡ 2 ^ c + 2 ^ c = omega arith in omega (arith, p, l)

one-bit : (b : Bool) → eqb (bit_at (cond b 1 0) 0) 1 ≡ b
one-bit true = refl
one-bit false = refl

pub top-bit : (b : Bool) (c mask : ℕ) → mask < 2 ^ c → has (cond b 1 0 * 2 ^ c + mask) c ≡ b
top-bit b c mask l =
    let z : c - c ≡ 0 = omega arith in
    ap (λ x. eqb x 1) (bit_at_cat_high (cond b 1 0) c mask c l (omega arith) ∙ ap (bit_at (cond b 1 0)) z) ∙ one-bit b

-- the other bits stay
pub other-bit : (b : Bool) (c mask d : ℕ) → mask < 2 ^ c → d ≢ c → has (cond b 1 0 * 2 ^ c + mask) d ≡ has mask d
other-bit b c mask d l ne = ⊎_elim
    (λ (m : d < c). ap (λ x. eqb x 1) (bit_at_cat_low (cond b 1 0) c mask d m))
    (λ (m : c ≤ d).
    let k : suc c ≤ d = omega (arith, m, ne) in
    ap (λ x. eqb x 1) (bit_at_above (cond b 1 0 * 2 ^ c + mask) (suc c) d (one-below b c mask l) k
    ∙ sym (bit_at_above mask c d l m)))
    (cases_lt d c)

along : {P : Type 0} (a b : Bool) → b ≡ a → ((a ≡ true) ↔ P) → (b ≡ true) ↔ P
along a b e p = (λ t. p.0 (sym e ∙ t), λ q. e ∙ p.1 q)

up-to : (c d : ℕ) → suc c ≤ d → 2 ^ suc c ≤ 2 ^ d
up-to c d l = pow-le-pow_right (omega arith) l

-- a channel that a mask of n channels names is there
pub named-within : (mask n c : ℕ) → mask < 2 ^ n → has mask c ≡ true → c < n
named-within mask n c small up = ⊎_elim
    (λ (l : c < n). l)
    (λ (l : n ≤ c). absurd (let z = bit_at_above mask n c small l in let o = bit-from-has mask c up in omega (arith, z, o)))
    (cases_lt c n)

pub marked-none : (channels : List Channel) (dir : Dir) (up : ℕ → Type 0) (left : ℕ) → ((d : ℕ) → (has left d ≡ true) ↔ up d)
    → ((d : ℕ) → up d → d < length channels) → AreMarked channels dir up left 0
marked-none channels dir up left are within = record {
  there = λ d one. (let u = (are d).0 (has-from-bit left d one) in (within d u, u));
  low = λ d one. pow_pos d;
  below = pow_pos (length channels);
  each = λ d x at none. (
    λ t. absurd (let z = bit_at-zero d in let o = bit-from-has 0 d t in omega (arith, z, o)),
    λ (u : (x.dir ≡ dir) × up d). absurd (let o = bit-from-has left d ((are d).1 u.1) in omega (arith, none, o)),
  );
}

-- none is left
pub all-marked : (channels : List Channel) (dir : Dir) (feed : Feed) (have : ℕ → ℕ) (left mask : ℕ) → left ≡ 0
    → AreMarked channels dir (IsUp (length channels) feed have) left mask → AreOffered channels dir feed have mask
all-marked channels dir feed have left mask none are = record {
  below = are.below;
  each = λ c x at. are.each c x at (ap (λ m. bit_at m c) none ∙ bit_at-zero c);
}

pub marked-more : (channels : List Channel) (dir : Dir) (up : ℕ → Type 0) (left mask c others new : ℕ) (x : Channel) (b : Bool)
    → IsLowest left c others → x ≡ get_or channels c x → ((b ≡ true) ↔ (x.dir ≡ dir))
    → new ≡ cond b 1 0 * 2 ^ c + mask → AreMarked channels dir up left mask → AreMarked channels dir up others new
marked-more channels dir up left mask c others new x b is ex of n are =
    let here = are.there c is.named in
    let l = here.0 in
    let says : (b ≡ true) ↔ ((x.dir ≡ dir) × up c) = (λ t. (of.0 t, here.1), λ both. of.1 both.0) in
    let low = are.low c is.named in
    let top : new < 2 ^ suc c = subst (λ m. m < 2 ^ suc c) (sym n) (one-below b c mask low) in
    record {
      there = λ d one. ⊎_elim
          (λ (e : d ≡ c). absurd (let z : bit_at others d ≡ 0 = ap (bit_at others) e ∙ is.without in omega (arith, z, one)))
          (λ (ne : d ≡ c → ⊥). are.there d (sym (is.same d ne) ∙ one))
          (cases_eq d c);
      low = λ d one. ⊎_elim
          (λ (e : d ≡ c). absurd (let z : bit_at others d ≡ 0 = ap (bit_at others) e ∙ is.without in omega (arith, z, one)))
          (λ (ne : d ≡ c → ⊥). ⊎_elim
          (λ (m : d < c). absurd (let z = is.below d m in let s = is.same d ne in omega (arith, z, s, one)))
          (λ (m : c ≤ d). let p = up-to c d (omega (arith, m, ne)) in omega (arith, top, p))
          (cases_lt d c))
          (cases_eq d c);
      below = let p = up-to c (length channels) (omega (arith, l)) in omega (arith, top, p);
      each = λ d y at none. ⊎_elim
          (λ (e : d ≡ c).
          let there : slice_get channels c ≡ Some x = slice_get_read channels (length channels) c x refl l ex in
          let same : x ≡ y = same_Some x y (sym there ∙ ap (slice_get channels) (sym e) ∙ at) in
          subst (λ (i : ℕ). (has new i ≡ true) ↔ ((y.dir ≡ dir) × up i)) (sym e)
          (subst (λ (z : Channel). (has new c ≡ true) ↔ ((z.dir ≡ dir) × up c)) same
          (along b (has new c) (ap (λ q. has q c) n ∙ top-bit b c mask low) says)))
          (λ (ne : d ≡ c → ⊥). along (has mask d) (has new d) (ap (λ q. has q d) n ∙ other-bit b c mask d low ne)
          (are.each d y at (sym (is.same d ne) ∙ none)))
          (cases_eq d c);
    }

-- ---- the contents
-- channel c's part, as it is fed or 0
part : (fed : List ℕ) (b : Bool) (at k : ℕ) (front contents new : List ℕ) → at + k ≤ length fed → length front ≡ at
    → contents ≡ front ++ drop at fed → new ≡ cond b contents (replaced contents at (replicate k 0))
    → (new ≡ front ++ cond b (take k (drop at fed)) (replicate k 0) ++ drop (at + k) fed)
    × (length (cond b (take k (drop at fed)) (replicate k 0)) ≡ k)
part fed true at k front contents new room long is n =
    let rest = drop at fed in (
      n ∙ is ∙ ap (λ xs. front ++ xs) (sym (take-append-drop k rest)) ∙ sym (append_assoc front (take k rest) (drop k rest))
          ∙ ap (λ xs. front ++ take k rest ++ xs) (drop-drop k at fed),
      length-take-le k rest (let d = length-drop at fed in omega (arith, d, room)),
    )
part fed false at k front contents new room long is n =
    let zeros : List ℕ = replicate k 0 in
    let rest = drop at fed in
    let count : length zeros ≡ k = length-replicate k 0 in (
      n ∙ ap (λ xs. take at xs ++ zeros ++ drop (at + length zeros) xs) is
          ∙ ap (λ xs. xs ++ zeros ++ drop (at + length zeros) (front ++ rest)) (take_at front rest at long)
          ∙ ap (λ xs. front ++ zeros ++ xs) (sym (drop-drop (length zeros) at (front ++ rest)))
          ∙ ap (λ xs. front ++ zeros ++ drop (length zeros) xs) (drop_at front rest at long)
          ∙ ap (λ xs. front ++ zeros ++ xs) (drop-drop (length zeros) at fed)
          ∙ ap (λ m. front ++ zeros ++ drop (at + m) fed) count,
      count,
    )

-- the contents are made as far as channel c
pub record AreMade (channels : List Channel) (valids : ℕ) (fed contents : List ℕ) (c at : ℕ) : Type 0 where
  pub place : at ≡ first_of channels c
  pub front : length (joined (fed_content channels valids fed) 0 (take c channels)) ≡ at
  pub made_is : contents ≡ joined (fed_content channels valids fed) 0 (take c channels) ++ drop at fed

pub made-none : (channels : List Channel) (valids : ℕ) (fed contents : List ℕ) → contents ≡ fed → AreMade channels valids fed contents 0 0
made-none channels valids fed contents e = record { place = refl; front = refl; made_is = e }

-- there is room for a channel's numbers
pub room-here : (channels : List Channel) (fed : List ℕ) (c at : ℕ) (x : Channel) → Fit (all_widths channels) fed → c < length channels
    → x ≡ get_or channels c x → at ≡ first_of channels c → at + length x.widths ≤ length fed
room-here channels fed c at x fit l e p = let w = first-within channels fed c x fit l e in omega (arith, w, p)

pub made-more : (channels : List Channel) (valids : ℕ) (fed contents new : List ℕ) (c at next ports : ℕ) (x : Channel) (b : Bool)
    → Fit (all_widths channels) fed → c < length channels → x ≡ get_or channels c x → b ≡ has valids c → ports ≡ length x.widths
    → AreMade channels valids fed contents c at → new ≡ cond b contents (replaced contents at (replicate ports 0)) → next ≡ at + ports
    → AreMade channels valids fed new (c + 1) next
made-more channels valids fed contents new c at next ports x b fit l ex up k are n e =
    let f = fed_content channels valids fed in
    let front = joined f 0 (take c channels) in
    let mine : List ℕ = cond b (take ports (drop at fed)) (replicate ports 0) in
    let fed-is : content_at channels fed c ≡ take ports (drop at fed) =
    content-read channels fed c x l ex ∙ ap (λ a. take (length x.widths) (drop a fed)) (sym are.place)
    ∙ ap (λ m. take m (drop at fed)) (sym k) in
    let none-is : no_content channels c ≡ replicate ports 0 =
    ap (λ (o : Option Channel). replicate (length (widths_of o)) 0) (slice_get_read channels (length channels) c x refl l ex)
    ∙ ap (λ m. replicate m 0) (sym k) in
    let here : f c ≡ mine =
    ap (λ xs. cond (has valids c) xs (no_content channels c)) fed-is ∙ ap (cond (has valids c) (take ports (drop at fed))) none-is
    ∙ ap (λ q. cond q (take ports (drop at fed)) (replicate ports 0)) (sym up) in
    let more : joined f 0 (take (c + 1) channels) ≡ front ++ mine = joined-more f channels c x l ex ∙ ap (λ xs. front ++ xs) here in
    let within : at + ports ≤ length fed =
    let r = room-here channels fed c at x fit l ex are.place in omega (arith, r, k) in
    let p = part fed b at ports front contents new within are.front are.made_is n in
    let place = are.place in
    record {
      place = let g = first-more channels c x l ex in omega (arith, g, place, e, k);
      front = ap length more ∙ length-append front mine
          ∙ (let a = p.1 in let q = are.front in let z : length front + length mine ≡ next = omega (arith, a, q, e) in z);
      made_is = p.0 ∙ ap (λ xs. xs ++ drop (at + ports) fed) (sym more)
          ∙ ap (λ a. joined f 0 (take (c + 1) channels) ++ drop a fed) (sym e);
    }

pub made-done : (channels : List Channel) (valids : ℕ) (fed contents : List ℕ) (c at : ℕ) → Fit (all_widths channels) fed
    → length channels ≤ c → AreMade channels valids fed contents c at → contents ≡ joined (fed_content channels valids fed) 0 channels
made-done channels valids fed contents c at fit l are =
    let f = fed_content channels valids fed in
    let all = take_all c channels l in
    let past : length fed ≤ at =
    let p = are.place in let a : first_of channels c ≡ length (all_widths channels) = ap (λ cs. length (all_widths cs)) all in
    let b = fit-length (all_widths channels) fed fit in omega (arith, p, a, b) in
    are.made_is ∙ ap (λ cs. joined f 0 cs ++ drop at fed) all
    ∙ ap (λ xs. joined f 0 channels ++ xs) (drop_all at fed past) ∙ append-nil (joined f 0 channels)

-- ---- all of it
module _ (channels : List Channel) (have : ℕ → ℕ) (feed : Feed) (offers : Offers) (over : IsFeedOver channels feed) where
  abbrev numbers : ℕ → List ℕ
  numbers = fed_content channels offers.valids feed.contents

  numbers-fit : (c : ℕ) (x : Channel) → slice_get channels c ≡ Some x → Fit x.widths (numbers c)
  numbers-fit c x at = ⊎_elim
      (λ (up : has offers.valids c ≡ true). subst (Fit x.widths)
      (sym (cond-true (has offers.valids c) (content_at channels feed.contents c) (no_content channels c) up))
      (content-fits channels feed.contents over.contents c x at))
      (λ (down : has offers.valids c ≡ false). subst (Fit x.widths)
      (sym (cond-false (has offers.valids c) (content_at channels feed.contents c) (no_content channels c) down
      ∙ ap (λ (o : Option Channel). replicate (length (widths_of o)) 0) at)) (fit-zeros x.widths))
      (cases_Bool (has offers.valids c))

  pub are-fed : offers.valids < 2 ^ length channels
      → ((c : ℕ) (x : Channel) → slice_get channels c ≡ Some x
      → (has offers.valids c ≡ true) ↔ ((x.dir ≡ Inward) × IsUp (length channels) feed have c))
      → offers.readies < 2 ^ length channels
      → ((c : ℕ) (x : Channel) → slice_get channels c ≡ Some x
      → (has offers.readies c ≡ true) ↔ ((x.dir ≡ Outward) × IsUp (length channels) feed have c))
      → offers.contents ≡ joined numbers 0 channels → AreFed channels have feed offers
  are-fed valids-below valids readies-below readies contents =
      let content-is : (c : ℕ) (x : Channel) → slice_get channels c ≡ Some x → content_at channels offers.contents c ≡ numbers c =
      λ c x at. ap (λ (xs : List ℕ). content_at channels xs c) contents ∙ content-joined numbers channels numbers-fit c x at in
      record {
        over = record {
          valids = valids-below;
          readies = readies-below;
          contents = subst (Fit (all_widths channels)) (sym contents) (fit-joined numbers channels numbers-fit);
        };
        zeros = λ c x at dir down. content-is c x at
            ∙ cond-false (has offers.valids c) (content_at channels feed.contents c) (no_content channels c) down;
        valid = λ c x at dir.
            (let m = valids c x at in
            (λ t. (m.0 t).1, λ u. m.1 (dir, u)));
        content = λ c x at dir up. content-is c x at
            ∙ cond-true (has offers.valids c) (content_at channels feed.contents c) (no_content channels c) up;
        ready = λ c x at dir.
            (let m = readies c x at in
            (λ t. (m.0 t).1, λ u. m.1 (dir, u)));
      }

pub fed-by : (channels ys : List Channel) (have : ℕ → ℕ) (feed : Feed) (fed : List ℕ) (offers : Offers) → ys ≡ channels → fed ≡ feed.contents
    → IsFeedOver channels feed → offers.valids < 2 ^ length ys
    → ((c : ℕ) (x : Channel) → slice_get ys c ≡ Some x
    → (has offers.valids c ≡ true) ↔ ((x.dir ≡ Inward) × IsUp (length ys) feed have c))
    → offers.readies < 2 ^ length ys
    → ((c : ℕ) (x : Channel) → slice_get ys c ≡ Some x
    → (has offers.readies c ≡ true) ↔ ((x.dir ≡ Outward) × IsUp (length ys) feed have c))
    → offers.contents ≡ joined (fed_content ys offers.valids fed) 0 ys → AreFed channels have feed offers
fed-by channels ys have feed fed offers e f over vb v rb r made =
    subst (λ (cs : List Channel). AreFed cs have feed offers) e
    (are-fed ys have feed offers (subst (λ (cs : List Channel). IsFeedOver cs feed) (sym e) over)
    vb v rb r
    (made ∙ ap (λ (xs : List ℕ). joined (fed_content ys offers.valids xs) 0 ys) f))
