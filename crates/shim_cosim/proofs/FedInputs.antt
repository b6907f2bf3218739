-- A feed that is entered channel by channel.
use Rattle.std.proofs.Common.{◌≡◌, ℕ, zero, suc, ◌+◌, ◌*◌, ◌<◌, ◌≤◌, ◌^◌, List, [], ◌∷◌, ◌++◌, refl, sym, ap, ◌∙◌, subst, arith}
use Rattle.std.proofs.Common.{length, take, drop, get_or, set, replicate, append_assoc, ⊎_elim}
use Rattle.std.specs.List.{sum_by}
use Rattle.std.proofs.lemmas.Bool.{cases_lt}
use Rattle.std.proofs.lemmas.List.{append-nil, length-append, length-take-le, length-drop, take_all, take_at, drop_at, drop-drop, drop_all}
use Rattle.std.proofs.lemmas.List.{get_or-take, get_or-drop, replicate-append-replicate}
use Rattle.std.proofs.lemmas.List.Sums.{sum_by_push, sum_by-take-le}
use Rattle.std.proofs.Math.Nat.{mul-le-mul_left}
use Rattle.net_sim.specs.vidi_bits.Number.{truth, has}
use Rattle.replay_run.specs.trace_model.declared.channel.Channel.{Channel}
use Rattle.replay_run.specs.trace_model.declared.channel.Dir.{Dir}
use Rattle.replay_run.specs.trace_model.declared.channel.Dir.TheVariants.{Inward, Outward}
use Rattle.replay_run.specs.trace_model.Row.{content_at, replaced}
use Rattle.replay_run.proofs.trace_model_lemmas.CountingLemmas.{take-more_read}
use Rattle.replay_run.proofs.trace_model_lemmas.RowLemmas.{first_of, first-within, content-read, rest-more, replaced-none, replaced-more}
use Rattle.replay_run.specs.chan_replayer.declared.feed.Feed.{Feed}
use Rattle.replay_run.specs.chan_replayer.Feed.{need_of, IsFeedOver}
use Rattle.shim_gen.specs.shim_trees.Pieces.{each_some}
use Rattle.shim_cosim.specs.Rewrapped.{if_inward, channel_inputs, feed_inputs, input_count, inputs_count, AreSmallNeeds}

-- ---- pieces of a front of a list
pub some_push : {X Y : Type 0} (f : ℕ → X → List Y) (k : ℕ) (xs : List X) (x : X) → each_some f k (xs ++ x ∷ []) ≡ each_some f k xs ++ f (k + length xs) x
some_push f k [] x = append-nil (f k x) ∙ ap (λ i. f i x) (plus_zero k) where
  plus_zero : (k : ℕ) → k ≡ k + 0
  plus_zero k = omega arith
some_push f k (y ∷ xs) x =
    ap (λ zs. f k y ++ zs) (some_push f (k + 1) xs x) ∙ sym (append_assoc (f k y) (each_some f (k + 1) xs) (f (k + 1 + length xs) x))
    ∙ ap (λ i. (f k y ++ each_some f (k + 1) xs) ++ f i x) (shift k (length xs))
  where
    shift : (k n : ℕ) → k + 1 + n ≡ k + suc n
    shift k n = omega arith

pub some_more : {X Y : Type 0} (f : ℕ → X → List Y) (xs : List X) (c : ℕ) (x : X) → c < length xs → x ≡ get_or xs c x
    → each_some f 0 (take (c + 1) xs) ≡ each_some f 0 (take c xs) ++ f c x
some_more f xs c x l e =
    let long = length-take-le c xs (omega (arith, l)) in
    ap (each_some f 0) (take-more_read xs c x l e) ∙ some_push f 0 (take c xs) x
    ∙ ap (λ i. each_some f 0 (take c xs) ++ f i x) (omega (arith, long))

pub sum_more : {X : Type 0} (f : X → ℕ) (xs : List X) (c : ℕ) (x : X) → c < length xs → x ≡ get_or xs c x
    → sum_by f (take (c + 1) xs) ≡ sum_by f (take c xs) + f x
sum_more f xs c x l e = ap (sum_by f) (take-more_read xs c x l e) ∙ sum_by_push f (take c xs) x

-- a front is no more than all
pub sum_front : {X : Type 0} (f : X → ℕ) (xs : List X) (c : ℕ) → sum_by f (take c xs) ≤ sum_by f xs
sum_front f xs c = sum_by-take-le f xs c

-- zeros for one more
pub zeros_for : {X : Type 0} (f : X → ℕ) (xs : List X) (c k : ℕ) (x : X) (old zeros new : List ℕ) → c < length xs → x ≡ get_or xs c x
    → k ≡ f x → zeros ≡ old ++ replicate (sum_by f (take c xs)) 0 → new ≡ zeros ++ replicate k 0
    → new ≡ old ++ replicate (sum_by f (take (c + 1) xs)) 0
zeros_for f xs c k x old zeros new l e ke z n =
    let sums = sum_more f xs c x l e in
    n ∙ ap (λ ys. ys ++ replicate k 0) z ∙ append_assoc old (replicate (sum_by f (take c xs)) 0) (replicate k 0)
    ∙ ap (λ ys. old ++ ys) (replicate-append-replicate (sum_by f (take c xs)) k 0)
    ∙ ap (λ m. old ++ replicate m 0) (omega (arith, sums, ke))

pub zeros_done : {X : Type 0} (f : X → ℕ) (xs : List X) (c : ℕ) (old new : List ℕ) → length xs ≤ c
    → new ≡ old ++ replicate (sum_by f (take c xs)) 0 → new ≡ old ++ replicate (sum_by f xs) 0
zeros_done f xs c old new l e = e ∙ ap (λ ys. old ++ replicate (sum_by f ys) 0) (take_all c xs l)

-- ---- numbers in place of others, one piece after the other
pub replaced_twice : (xs us bs : List ℕ) (at next : ℕ) → at + length us + length bs ≤ length xs → next ≡ at + length us
    → replaced (replaced xs at us) next bs ≡ replaced xs at (us ++ bs)
replaced_twice xs us bs at next room e =
    let front = take at xs ++ us in
    let rest = drop (at + length us) xs in
    let long : length front ≡ next =
    length-append (take at xs) us ∙ ap (λ k. k + length us) (length-take-le at xs (omega (arith, room))) ∙ sym e in
    let sum = length-append us bs in
    let far : at + length us + length bs ≡ at + length (us ++ bs) = omega (arith, sum) in
    ap (λ ys. ys ++ bs ++ drop (next + length bs) (front ++ rest)) (take_at front rest next long)
    ∙ ap (λ ys. front ++ bs ++ ys) (sym (drop-drop (length bs) next (front ++ rest)))
    ∙ ap (λ ys. front ++ bs ++ drop (length bs) ys) (drop_at front rest next long)
    ∙ ap (λ ys. front ++ bs ++ ys) (drop-drop (length bs) (at + length us) xs)
    ∙ ap (λ ys. ys ++ drop (at + length us + length bs) xs) (append_assoc (take at xs) us bs)
    ∙ ap (λ k. take at xs ++ (us ++ bs) ++ drop k xs) far

-- ---- a clock
-- past no default
any_default : (xs : List ℕ) (i d e : ℕ) → i < length xs → get_or xs i d ≡ get_or xs i e
any_default [] i d e l = absurd (omega (arith, l))
any_default (x ∷ xs) zero d e l = refl
any_default (x ∷ xs) (suc i) d e l = any_default xs i d e (omega (arith, l))

pub need_more : (pins now new needs : List ℕ) (at j y : ℕ) → j < length needs → at + length needs ≤ length pins → y ≡ get_or needs j 0
    → now ≡ replaced pins at (take j needs) → new ≡ set now (at + j) y → new ≡ replaced pins at (take (j + 1) needs)
need_more pins now new needs at j y l room e n w =
    let long : length (take j needs) ≡ j = length-take-le j needs (omega (arith, l)) in
    replaced-more pins (take j needs) now new at y (omega (arith, long, l, room)) n (w ∙ ap (λ k. set now (at + k) y) (sym long))
    ∙ ap (replaced pins at) (sym (take-more_read needs j y l (e ∙ any_default needs j 0 y l)))

-- how long it is
pub clock_long : (n c : ℕ) (needs : List ℕ) → c < n → length needs ≡ n * n → length (take n (drop (n * c) needs)) ≡ n
clock_long n c needs l long =
    let le : c + 1 ≤ n = omega (arith, l) in
    let m = mul-le-mul_left n le in
    let a = length-drop (n * c) needs in
    length-take-le n (drop (n * c) needs) (omega (arith, a, long, m))

-- ---- a channel
pub channel_entered : (pins : List ℕ) (at n m : ℕ) (needs content one two three : List ℕ) → length needs ≡ n
    → at + (1 + n + length content) ≤ length pins → one ≡ set pins at m → two ≡ replaced one (at + 1) needs
    → three ≡ replaced two (at + 1 + n) content → three ≡ replaced pins at (m ∷ (needs ++ content))
channel_entered pins at n m needs content one two three long room a b d =
    let first : one ≡ replaced pins at (m ∷ []) =
    a ∙ set_is pins at m (omega (arith, room)) in
    let second : two ≡ replaced pins at (m ∷ needs) =
    b ∙ ap (λ xs. replaced xs (at + 1) needs) first ∙ replaced_twice pins (m ∷ []) needs at (at + 1) (omega (arith, room, long)) refl in
    let next : at + 1 + n ≡ at + length (m ∷ needs) = omega (arith, long) in
    d ∙ ap (λ xs. replaced xs (at + 1 + n) content) second
    ∙ replaced_twice pins (m ∷ needs) content at (at + 1 + n) (omega (arith, room, long)) next
  where
    set_is : (xs : List ℕ) (i y : ℕ) → i < length xs → set xs i y ≡ replaced xs i (y ∷ [])
    set_is [] i y l = absurd (omega (arith, l))
    set_is (x ∷ xs) zero y l = refl
    set_is (x ∷ xs) (suc i) y l =
        ap (λ zs. x ∷ zs) (set_is xs i y (omega (arith, l))) ∙ ap (λ k. (x ∷ (take i xs ++ y ∷ [])) ++ drop k (x ∷ xs)) (shift i)
      where
        shift : (i : ℕ) → suc (i + 1) ≡ suc i + 1
        shift i = omega arith

-- ---- all of it
pub record AreEntered (channels : List Channel) (feed : Feed) (old pins : List ℕ) (first c at : ℕ) (rest : List ℕ) : Type 0 where
  pub place : at ≡ first + sum_by (input_count (length channels)) (take c channels)
  pub many : length (each_some (channel_inputs channels feed) 0 (take c channels)) ≡ sum_by (input_count (length channels)) (take c channels)
  pub is : pins ≡ replaced old first (each_some (channel_inputs channels feed) 0 (take c channels))
  pub rest_is : rest ≡ drop (first_of channels c) feed.contents
  pub small : (i j : ℕ) → i < c → j < length channels → need_of (length channels) feed i j < 2 ^ 32

pub entered_none : (channels : List Channel) (feed : Feed) (old rest : List ℕ) (first : ℕ) → rest ≡ feed.contents
    → AreEntered channels feed old old first 0 first rest
entered_none channels feed old rest first e = record {
  place = omega arith;
  many = refl;
  is = replaced-none old first;
  rest_is = e;
  small = λ i j l k. absurd (omega (arith, l));
}

if_long : (dir : Dir) (ws xs : List ℕ) → length xs ≡ length ws → length (if_inward xs dir) ≡ length (if_inward ws dir)
if_long Inward ws xs e = e
if_long Outward ws xs e = refl

module _ (channels : List Channel) (feed : Feed) (over : IsFeedOver channels feed) (old : List ℕ) (first : ℕ)
    (long : length old ≡ first + inputs_count channels) (c at : ℕ) (pins rest : List ℕ) (are : AreEntered channels feed old pins first c at rest)
    (x : Channel) (l : c < length channels) (e : x ≡ get_or channels c x) where
  abbrev n : ℕ
  n = length channels

  next_within : at + input_count (length channels) x ≤ length old
  next_within =
      let more = sum_more (input_count n) channels c x l e in
      let most = sum_front (input_count n) channels (c + 1) in
      let place = are.place in
      omega (arith, more, most, place, long)

  module _ (content : List ℕ) (is : content ≡ take (length x.widths) rest) where
    content_is : content ≡ content_at channels feed.contents c
    content_is = is ∙ ap (take (length x.widths)) are.rest_is ∙ sym (content-read channels feed.contents c x l e)

    content_long : length content ≡ length x.widths
    content_long =
        let w = first-within channels feed.contents c x over.contents l e in
        let d = length-drop (first_of channels c) feed.contents in
        let r = ap length are.rest_is in
        ap length is ∙ length-take-le (length x.widths) rest (omega (arith, w, d, r))

    pub room : length pins ≡ length old → at + (1 + length channels + length (if_inward content x.dir)) ≤ length pins
    room same =
        let w = next_within in
        let i = if_long x.dir x.widths content content_long in
        omega (arith, w, i, same)

    pub entered_more : (new after : List ℕ) (next : ℕ)
        → new ≡ replaced pins at (truth (has feed.more c) ∷ (take (length channels) (drop (length channels * c) feed.needs) ++ if_inward content x.dir))
        → ((j : ℕ) → j < length channels → get_or (take (length channels) (drop (length channels * c) feed.needs)) j 0 < 2 ^ 32)
        → next ≡ at + input_count (length channels) x → after ≡ drop (length x.widths) rest
        → AreEntered channels feed old new first (c + 1) next after
    entered_more new after next w small step behind =
        let front = each_some (channel_inputs channels feed) 0 (take c channels) in
        let mine = channel_inputs channels feed c x in
        let written : new ≡ replaced pins at mine =
        w ∙ ap (λ ks. replaced pins at (truth (has feed.more c) ∷ (take n (drop (n * c) feed.needs) ++ if_inward ks x.dir))) content_is in
        let needs_long : length (take n (drop (n * c) feed.needs)) ≡ n = clock_long n c feed.needs l over.needs in
        let mine_long : length mine ≡ input_count n x =
        (let a = length-append (take n (drop (n * c) feed.needs)) (if_inward (content_at channels feed.contents c) x.dir) in
        let b = if_long x.dir x.widths (content_at channels feed.contents c) (ap length (sym content_is) ∙ content_long) in
        omega (arith, a, b, needs_long)) in
        let more : each_some (channel_inputs channels feed) 0 (take (c + 1) channels) ≡ front ++ mine = some_more (channel_inputs channels feed) channels c x l e in
        let sums = sum_more (input_count n) channels c x l e in
        let place = are.place in
        let many = are.many in
        let w = next_within in
        record {
          place = omega (arith, place, sums, step);
          many = ap length more ∙ length-append front mine ∙ (omega (arith, many, mine_long, sums));
          is = written ∙ ap (λ ps. replaced ps at mine) are.is
              ∙ replaced_twice old front mine first at (omega (arith, many, place, mine_long, w)) (omega (arith, many, place))
              ∙ ap (replaced old first) (sym more);
          rest_is = rest-more channels feed.contents rest after c (length x.widths) x l e are.rest_is refl behind;
          small = λ i j k m. ⊎_elim
              (λ (b : i < c). are.small i j b m)
              (λ (b : c ≤ i).
              let same : i ≡ c = omega (arith, b, k) in
              let at_need : get_or (take n (drop (n * c) feed.needs)) j 0 ≡ need_of n feed c j =
              get_or-take n (drop (n * c) feed.needs) j 0 m ∙ get_or-drop (n * c) feed.needs j 0 in
              subst (λ q. need_of n feed q j < 2 ^ 32) (sym same)
              (subst (λ q. q < 2 ^ 32) at_need (small j m)))
              (cases_lt i c);
        }

pub entered_done : (channels : List Channel) (feed : Feed) (old pins rest : List ℕ) (first c at : ℕ) → length old ≡ first + inputs_count channels
    → length channels ≤ c → AreEntered channels feed old pins first c at rest
    → (pins ≡ take first old ++ feed_inputs channels feed) × AreSmallNeeds channels feed
entered_done channels feed old pins rest first c at long l are =
    let all = take_all c channels l in
    let whole : each_some (channel_inputs channels feed) 0 (take c channels) ≡ feed_inputs channels feed =
    ap (each_some (channel_inputs channels feed) 0) all in
    let many = are.many in
    let sums : sum_by (input_count (length channels)) (take c channels) ≡ inputs_count channels = ap (sum_by (input_count (length channels))) all in
    let same = ap length whole in
    let none : drop (first + length (feed_inputs channels feed)) old ≡ [] =
    drop_all (first + length (feed_inputs channels feed)) old (omega (arith, long, many, sums, same)) in (
      are.is ∙ ap (replaced old first) whole
          ∙ ap (λ xs. take first old ++ feed_inputs channels feed ++ xs) none
          ∙ append-nil (take first old ++ feed_inputs channels feed),
      (λ i j a b. are.small i j (omega (arith, a, l)) b),
    )
