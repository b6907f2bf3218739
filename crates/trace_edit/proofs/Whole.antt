-- *moved completion*, out of its parts.
use Rattle.std.proofs.Common.{◌≡◌, ℕ, suc, ◌+◌, ◌<◌, ◌≤◌, ◌++◌, ◌&&◌, eqb, ltb, Bool, true, false, List, [], ◌∷◌, All, Some, Ok, inl, inr, length, map, slice_get}
use Rattle.std.proofs.Common.{refl, ap, sym, subst, ◌∙◌, ⊎_elim, arith, ltb-false, length-append}
use Rattle.std.specs.List.{filter}
use Rattle.std.proofs.lemmas.Bool.{cases_Bool, cases_lt, cond-true, cond-false, ne_eqb}
use Rattle.std.proofs.lemmas.List.{map-append}
use Rattle.std.proofs.lemmas.List.Elements.{All-nil, All-cons, All-head, All-tail, All-append, filter-append}
use Rattle.std.proofs.lemmas.Option.{slice_get_within, get_or_from_slice_get}
use Rattle.trace_model.specs.vidi_bits.Number.{has}
use Rattle.trace_model.specs.declared.channel.Channel.{Channel}
use Rattle.trace_model.specs.declared.event.Event.{Event}
use Rattle.trace_model.specs.declared.event.Kind.TheVariants.{Start, End, Reset}
use Rattle.trace_model.specs.declared.packet.Packet.{Packet}
use Rattle.trace_model.specs.declared.trace.Trace.{Trace}
use Rattle.trace_model.specs.Epoch.{epoch}
use Rattle.trace_model.specs.Packet.{count, content_of, does, IsPacket}
use Rattle.trace_model.specs.Recording.{recorded}
use Rattle.trace_model.specs.Trace.{Alternates, IsWellFormed}
use Rattle.trace_model.proofs.CountingLemmas.{nth-unique, slice_get-append}
use Rattle.trace_edit.specs.declared.place.Move.{Move}
use Rattle.trace_edit.specs.Laws.{MovedCompletion, MoveKeeps, MovesClocks}
use Rattle.trace_edit.specs.Moved.{alone, does_at, moved, shows, stays, without, BlocksOn, EndsAt, IsFree, IsMove, Moves}
use Rattle.trace_edit.specs.Parts.{IsMovedAfter, IsMovedBefore, IsMovedOn}
use Rattle.trace_edit.specs.Stories.{alternating, story}
use Rattle.trace_edit.proofs.Places.{get-behind}
use Rattle.trace_edit.proofs.Blockers.{no-next, no-own, no-reset}
use Rattle.trace_edit.proofs.Alternating.{stories-alternate}
use Rattle.trace_edit.proofs.Single.{none-in-zero, channel-below, length-without, packet-without, packet-alone, recorded-without, recorded-alone, ends-without, ends-alone}
use Rattle.trace_edit.proofs.Keeping.{after-keeps, before-keeps}
use Rattle.trace_edit.proofs.Quiet.{Idle, idle-from, quiet-after, quiet-before}
use Rattle.trace_edit.proofs.Clocks.{NoReset, no-reset-front, count-both, after-less, after-same, before-more, before-same}
use Rattle.trace_edit.proofs.Splitting.{spread, split-after, split-before, AfterParts, after-parts, BeforeParts, before-parts}

-- ---- lists
recorded-both : (channels : List Channel) (d : ℕ) (xs ys : List Packet) → recorded channels (xs ++ ys) d ≡ recorded channels xs d ++ recorded channels ys d
recorded-both channels d xs ys =
    ap (map (λ (p : Packet). content_of channels p d)) (filter-append (does Start d) xs ys)
    ∙ map-append (λ (p : Packet). content_of channels p d) (filter (does Start d) xs) (filter (does Start d) ys)

all-parts : {X : Type 0} (P : X → Type 0) (xs ys : List X) → All P (xs ++ ys) → All P xs × All P ys
all-parts P [] ys h = (All-nil P, h)
all-parts P (x ∷ xs) ys h =
    let t = all-parts P xs ys (All-tail P x (xs ++ ys) h) in (All-cons P x xs (All-head P x (xs ++ ys) h) t.0, t.1)

-- ---- what both sides keep
pub record Change (channels : List Channel) (old new : List Packet) : Type 0 where
  pub stories : (d : ℕ) → story d new ≡ story d old
  pub starts : (d : ℕ) → recorded channels new d ≡ recorded channels old d
  pub ends : (d : ℕ) → count End d new ≡ count End d old
  pub each : All (IsPacket channels) new
  pub size : length new ≤ length old + 1

module _ (channels : List Channel) (c : ℕ) (P : Packet) (there : has P.ends c ≡ true) (plain : P.reset ≡ false) (A B C : List Packet) where
  alone-there : IsPacket channels P → IsPacket channels (alone c)
  alone-there is = packet-alone channels c (channel-below P.ends c (length channels) there is.ends)

  after-change : All (IsPacket channels) (A ++ P ∷ (B ++ C)) → story c B ≡ []
      → Change channels (A ++ P ∷ (B ++ C)) (A ++ (without c P ++ (B ++ alone c ∷ C)))
  after-change all quiet =
      let in_A = all-parts (IsPacket channels) A (P ∷ (B ++ C)) all in
      let is = All-head (IsPacket channels) P (B ++ C) in_A.1 in
      let others = all-parts (IsPacket channels) B C (All-tail (IsPacket channels) P (B ++ C) in_A.1) in
      record {
        stories = after-keeps c P there plain A B C quiet;
        starts = λ d.
            recorded-both channels d A (without c P ++ (B ++ alone c ∷ C))
            ∙ ap (λ xs. recorded channels A d ++ xs) (recorded-both channels d (without c P) (B ++ alone c ∷ C)
            ∙ ap (λ xs. xs ++ recorded channels (B ++ alone c ∷ C) d) (recorded-without channels c d P)
            ∙ ap (λ xs. recorded channels (P ∷ []) d ++ xs) (recorded-both channels d B (alone c ∷ C)
            ∙ ap (λ xs. recorded channels B d ++ xs) (recorded-both channels d (alone c ∷ []) C
            ∙ ap (λ xs. xs ++ recorded channels C d) (recorded-alone channels c d))
            ∙ sym (recorded-both channels d B C))
            ∙ sym (recorded-both channels d (P ∷ []) (B ++ C)))
            ∙ sym (recorded-both channels d A (P ∷ (B ++ C)));
        ends = λ d.
            let a = count-both d A (without c P ++ (B ++ alone c ∷ C)) in
            let b = count-both d (without c P) (B ++ alone c ∷ C) in
            let e = count-both d B (alone c ∷ C) in
            let f = count-both d (alone c ∷ []) C in
            let g = count-both d A (P ∷ (B ++ C)) in
            let h = count-both d (P ∷ []) (B ++ C) in
            let i = count-both d B C in
            let one = ends-without c d P there in
            let two = ends-alone c d in
            let z : count End d (A ++ (without c P ++ (B ++ alone c ∷ C))) ≡ count End d (A ++ P ∷ (B ++ C)) =
            omega (arith, a, b, e, f, g, h, i, one, two) in z;
        each = All-append (IsPacket channels) A (without c P ++ (B ++ alone c ∷ C)) in_A.0
            (All-append (IsPacket channels) (without c P) (B ++ alone c ∷ C) (packet-without channels c P is there plain)
            (All-append (IsPacket channels) B (alone c ∷ C) others.0 (All-cons (IsPacket channels) (alone c) C (alone-there is) others.1)));
        size =
            let a = length-append A (without c P ++ (B ++ alone c ∷ C)) in
            let b = length-append (without c P) (B ++ alone c ∷ C) in
            let e = length-append B (alone c ∷ C) in
            let g = length-append A (P ∷ (B ++ C)) in
            let i = length-append B C in
            let one = length-without c P in omega (arith, a, b, e, g, i, one);
      }

  before-change : All (IsPacket channels) (A ++ (B ++ P ∷ C)) → story c B ≡ [] → has P.starts c ≡ false
      → Change channels (A ++ (B ++ P ∷ C)) (A ++ alone c ∷ (B ++ (without c P ++ C)))
  before-change all quiet idle =
      let in_A = all-parts (IsPacket channels) A (B ++ P ∷ C) all in
      let in_B = all-parts (IsPacket channels) B (P ∷ C) in_A.1 in
      let is = All-head (IsPacket channels) P C in_B.1 in
      record {
        stories = before-keeps c P there plain A B C quiet idle;
        starts = λ d.
            recorded-both channels d A (alone c ∷ (B ++ (without c P ++ C)))
            ∙ ap (λ xs. recorded channels A d ++ xs) (recorded-both channels d (alone c ∷ []) (B ++ (without c P ++ C))
            ∙ ap (λ xs. xs ++ recorded channels (B ++ (without c P ++ C)) d) (recorded-alone channels c d)
            ∙ recorded-both channels d B (without c P ++ C)
            ∙ ap (λ xs. recorded channels B d ++ xs) (recorded-both channels d (without c P) C
            ∙ ap (λ xs. xs ++ recorded channels C d) (recorded-without channels c d P)
            ∙ sym (recorded-both channels d (P ∷ []) C))
            ∙ sym (recorded-both channels d B (P ∷ C)))
            ∙ sym (recorded-both channels d A (B ++ P ∷ C));
        ends = λ d.
            let a = count-both d A (alone c ∷ (B ++ (without c P ++ C))) in
            let b = count-both d (alone c ∷ []) (B ++ (without c P ++ C)) in
            let e = count-both d B (without c P ++ C) in
            let f = count-both d (without c P) C in
            let g = count-both d A (B ++ P ∷ C) in
            let h = count-both d B (P ∷ C) in
            let i = count-both d (P ∷ []) C in
            let one = ends-without c d P there in
            let two = ends-alone c d in
            let z : count End d (A ++ alone c ∷ (B ++ (without c P ++ C))) ≡ count End d (A ++ (B ++ P ∷ C)) =
            omega (arith, a, b, e, f, g, h, i, one, two) in z;
        each = All-append (IsPacket channels) A (alone c ∷ (B ++ (without c P ++ C))) in_A.0
            (All-cons (IsPacket channels) (alone c) (B ++ (without c P ++ C)) (alone-there is)
            (All-append (IsPacket channels) B (without c P ++ C) in_B.0
            (All-append (IsPacket channels) (without c P) C (packet-without channels c P is there plain) (All-tail (IsPacket channels) P C in_B.1))));
        size =
            let a = length-append A (alone c ∷ (B ++ (without c P ++ C))) in
            let e = length-append B (without c P ++ C) in
            let f = length-append (without c P) C in
            let g = length-append A (B ++ P ∷ C) in
            let h = length-append B (P ∷ C) in
            let one = length-without c P in omega (arith, a, e, f, g, h, one);
      }

-- ---- packets that complete something
and-false : (b : Bool) → (b && false) ≡ false
and-false true = refl
and-false false = refl

plain-end : (channels : List Channel) (c : ℕ) (x : Packet) → IsPacket channels x → has x.ends c ≡ true → x.reset ≡ false
plain-end channels c x is there =
    is.event ∙ ap (λ b. eqb x.starts 0 && b) (ne_eqb x.ends 0 (λ e. let z = sym (ap (λ n. has n c) e ∙ none-in-zero c) ∙ there in absurd cc))
    ∙ and-false (eqb x.starts 0)

packet-at : (channels : List Channel) (packets : List Packet) (p : ℕ) (x : Packet) → All (IsPacket channels) packets → slice_get packets p ≡ Some x
    → IsPacket channels x
packet-at channels packets p x all at = subst (IsPacket channels) (get_or_from_slice_get packets p x x at) (all p x (slice_get_within packets p x at))

idle-no-reset : (c : ℕ) (xs : List Packet) → Idle c xs → NoReset xs
idle-no-reset c [] h = tt
idle-no-reset c (x ∷ xs) h = (h.0.1, idle-no-reset c xs h.1)

-- ---- a move that isn't blocked
module _ (channels : List Channel) (packets : List Packet) (all : All (IsPacket channels) packets)
    (alternate : (e : ℕ) → Alternates (epoch e packets)) (m : Move) (P R : Packet) (at : slice_get packets m.from ≡ Some P)
    (there : has P.ends m.channel ≡ true) (next : slice_get packets m.to ≡ Some R) (plain-R : R.reset ≡ false)
    (goes : stays m ≡ false) (free : IsFree packets m) where
  plain : P.reset ≡ false
  plain = plain-end channels m.channel P (packet-at channels packets m.from P all at) there

  no-reset-to : does_at Reset 0 packets m.to ≡ false
  no-reset-to = ap (shows Reset 0) next ∙ plain-R

  told : alternating false (story m.channel packets) ≡ true
  told = (stories-alternate packets).0 alternate m.channel

  moved-is : moved m packets ≡ spread m 0 packets
  moved-is = cond-false (stays m) packets (spread m 0 packets) goes

  -- ---- `after`
  pub after-moved : m.after ≡ true → Change channels packets (moved m packets) × IsMovedAfter m packets (moved m packets)
  after-moved side = by (after-parts packets P m.from m.to at order (slice_get_within packets m.to R next))
    where
      order : m.from ≤ m.to
      order = ltb-false m.to m.from (sym (cond-true m.after (ltb m.to m.from) (ltb m.from m.to) side) ∙ goes)

      freed : (s : ℕ) → ¬ BlocksOn true packets m s
      freed s b = free s (goes, subst (λ after. BlocksOn after packets m s) (sym side) b)

      starts : (r : ℕ) → m.from < r → r ≤ m.to → does_at Start m.channel packets r ≡ false
      starts = no-next packets m.channel m.from m.to (λ s h. freed s (inl h))

      resets : (r : ℕ) → m.from < r → r ≤ m.to → does_at Reset 0 packets r ≡ false
      resets r a b = ⊎_elim (λ (l : r < m.to). no-reset packets m.from m.to (λ s h. freed s (inr h)) r a l)
          (λ (l : m.to ≤ r). ap (does_at Reset 0 packets) (let z : r ≡ m.to = omega (arith, l, b) in z) ∙ no-reset-to) (cases_lt r m.to)

      by : AfterParts packets P m.from m.to → Change channels packets (moved m packets) × IsMovedAfter m packets (moved m packets)
      by t =
          let long_A = t.long_A in
          let long_B = t.long_B in
          let idle : Idle m.channel t.B = idle-from m.channel packets t.B (m.from + 1)
          (λ i x h. ap (λ xs. slice_get xs (m.from + 1 + i)) t.whole
          ∙ ap (slice_get (t.A ++ P ∷ (t.B ++ t.C))) (let z : m.from + 1 + i ≡ length t.A + suc i = omega (arith, long_A) in z)
          ∙ get-behind t.A (P ∷ (t.B ++ t.C)) (suc i) ∙ slice_get-append t.B t.C i x h)
          (λ r a b. starts r (omega (arith, a)) (omega (arith, b, long_B)))
          (λ r a b. resets r (omega (arith, a)) (omega (arith, b, long_B))) in
          let quiet : story m.channel t.B ≡ [] = quiet-after m.channel t.A t.B t.C P there plain
          (subst (λ xs. alternating false (story m.channel xs) ≡ true) t.whole told) idle in
          let clear = idle-no-reset m.channel t.B idle in
          let now : moved m packets ≡ t.A ++ (without m.channel P ++ (t.B ++ alone m.channel ∷ t.C)) =
          moved-is ∙ ap (spread m 0) t.whole ∙ split-after m t.A t.B t.C P side long_A long_B in
          let change = after-change channels m.channel P there plain t.A t.B t.C (subst (All (IsPacket channels)) t.whole all) quiet in (
            subst (λ xs. Change channels xs (moved m packets)) (sym t.whole) (subst (Change channels (t.A ++ P ∷ (t.B ++ t.C))) (sym now) change),
            record {
              first = t.A;
              packet = P;
              between = t.B;
              last = t.C;
              from = long_A;
              to = long_B;
              before = t.whole;
              now = now;
              less = λ xs ys e d. after-less d m.channel P there plain t.A xs (no-reset-front xs ys (subst NoReset e clear));
              same = λ xs ys e d. after-same d m.channel P there plain t.A t.B xs clear;
            },
          )

  -- ---- `before`
  pub before-moved : m.after ≡ false → Change channels packets (moved m packets) × IsMovedBefore m packets (moved m packets)
  before-moved side = by (before-parts packets P m.from m.to at order)
    where
      order : m.to ≤ m.from
      order = ltb-false m.from m.to (sym (cond-false m.after (ltb m.to m.from) (ltb m.from m.to) side) ∙ goes)

      freed : (s : ℕ) → ¬ BlocksOn false packets m s
      freed s b = free s (goes, subst (λ after. BlocksOn after packets m s) (sym side) b)

      starts : (r : ℕ) → m.to ≤ r → r ≤ m.from → does_at Start m.channel packets r ≡ false
      starts = no-own packets m.channel m.from m.to (λ s h. freed s (inl h))

      resets : (r : ℕ) → m.to ≤ r → r < m.from → does_at Reset 0 packets r ≡ false
      resets r a b = ⊎_elim (λ (l : m.to < r). no-reset packets m.to m.from (λ s h. freed s (inr h)) r l b)
          (λ (l : r ≤ m.to). ap (does_at Reset 0 packets) (let z : r ≡ m.to = omega (arith, l, a) in z) ∙ no-reset-to) (cases_lt m.to r)

      by : BeforeParts packets P m.from m.to → Change channels packets (moved m packets) × IsMovedBefore m packets (moved m packets)
      by t =
          let long_A = t.long_A in
          let long_B = t.long_B in
          let idle : Idle m.channel t.B = idle-from m.channel packets t.B m.to
          (λ i x h. ap (λ xs. slice_get xs (m.to + i)) t.whole
          ∙ ap (slice_get (t.A ++ (t.B ++ P ∷ t.C))) (let z : m.to + i ≡ length t.A + i = omega (arith, long_A) in z)
          ∙ get-behind t.A (t.B ++ P ∷ t.C) i ∙ slice_get-append t.B (P ∷ t.C) i x h)
          (λ r a b. starts r a (omega (arith, b, long_B)))
          (λ r a b. resets r a (omega (arith, b, long_B))) in
          let unstarted : has P.starts m.channel ≡ false = sym (ap (shows Start m.channel) at) ∙ starts m.from order (omega arith) in
          let quiet : story m.channel t.B ≡ [] = quiet-before m.channel t.A t.B t.C P there plain
          (subst (λ xs. alternating false (story m.channel xs) ≡ true) t.whole told) idle unstarted in
          let clear = idle-no-reset m.channel t.B idle in
          let now : moved m packets ≡ t.A ++ alone m.channel ∷ (t.B ++ (without m.channel P ++ t.C)) =
          moved-is ∙ ap (spread m 0) t.whole ∙ split-before m t.A t.B t.C P side long_A long_B in
          let change = before-change channels m.channel P there plain t.A t.B t.C (subst (All (IsPacket channels)) t.whole all) quiet unstarted in (
            subst (λ xs. Change channels xs (moved m packets)) (sym t.whole) (subst (Change channels (t.A ++ (t.B ++ P ∷ t.C))) (sym now) change),
            record {
              first = t.A;
              between = t.B;
              packet = P;
              last = t.C;
              to = long_A;
              from = long_B;
              before = t.whole;
              now = now;
              more = λ xs ys e d. before-more d m.channel P there plain t.A xs (no-reset-front xs ys (subst NoReset e clear));
              same = λ xs ys e d. before-same d m.channel P there plain t.A t.B xs clear;
            },
          )

-- ---- completions have one place
place-unique : (packets : List Packet) (e : Event) (p q : ℕ) → EndsAt packets e p → EndsAt packets e q → p ≡ q
place-unique packets e p q (x, a) (y, b) = (nth-unique (does End e.channel) packets e.index p q x y a b).0

pub move-unique : (packets : List Packet) (end other : Event) (after : Bool) (m n : Move) → IsMove packets end other after m
    → IsMove packets end other after n → m ≡ n
move-unique packets end other after m n a b =
    ap (λ c. make c m.from m.to m.after) (a.channel ∙ sym b.channel)
    ∙ ap (λ p. make n.channel p m.to m.after) (place-unique packets end m.from n.from a.from b.from)
    ∙ ap (λ q. make n.channel n.from q m.after) (place-unique packets other m.to n.to a.to b.to)
    ∙ ap (λ s. make n.channel n.from n.to s) (a.side ∙ sym b.side)
  where
    make : ℕ → ℕ → ℕ → Bool → Move
    make channel from to side = record { channel = channel; from = from; to = to; after = side }

-- ---- the whole
unchanged : (t : Trace) → IsWellFormed t → Change t.channels t.packets t.packets
unchanged t is = record { stories = λ d. refl; starts = λ d. refl; ends = λ d. refl; each = is.packets; size = omega arith }

completed : (end other : Event) (after : Bool) (t : Trace) (new : List Packet) → IsWellFormed t → Change t.channels t.packets new
    → MovesClocks end other after t (record t { packets = new }) → MovedCompletion end other after t (record t { packets = new })
completed end other after t new is change clocks = record {
  well_formed = record {
    packets = change.each;
    alternate = (stories-alternate new).1 (λ d. ap (alternating false) (change.stories d) ∙ (stories-alternate t.packets).0 is.alternate d);
  };
  keeps = record { channels = refl; starts = change.starts; ends = change.ends; stories = change.stories };
  clocks = clocks;
  grows = change.size;
}

on-side : (channels : List Channel) (packets : List Packet) (m : Move) (after : Bool) → m.after ≡ after
    → (m.after ≡ true → Change channels packets (moved m packets) × IsMovedAfter m packets (moved m packets))
    → (m.after ≡ false → Change channels packets (moved m packets) × IsMovedBefore m packets (moved m packets))
    → Change channels packets (moved m packets) × IsMovedOn after m packets (moved m packets)
on-side channels packets m true side a b = a side
on-side channels packets m false side a b = b side

went : (end other : Event) (after : Bool) (t : Trace) (m : Move) → IsWellFormed t → IsMove t.packets end other after m → IsFree t.packets m
    → stays m ≡ false → MovedCompletion end other after t (record t { packets = moved m t.packets })
went end other after t m is move free goes =
    let from = move.from in
    let to = move.to in
    let there : has from.0.ends m.channel ≡ true = ap (has from.0.ends) move.channel ∙ from.1.passes in
    let plain-R = plain-end t.channels other.channel to.0 (packet-at t.channels t.packets m.to to.0 is.packets to.1.at) to.1.passes in
    let out = on-side t.channels t.packets m after move.side
    (after-moved t.channels t.packets is.packets is.alternate m from.0 to.0 from.1.at there to.1.at plain-R goes free)
    (before-moved t.channels t.packets is.packets is.alternate m from.0 to.0 from.1.at there to.1.at plain-R goes free) in
    completed end other after t (moved m t.packets) is out.0
    (λ n other-move goes-too. subst (λ k. IsMovedOn after k t.packets (moved m t.packets)) (move-unique t.packets end other after m n move other-move) out.1)

remained : (end other : Event) (after : Bool) (t : Trace) (m : Move) → IsWellFormed t → IsMove t.packets end other after m
    → stays m ≡ true → MovedCompletion end other after t (record t { packets = moved m t.packets })
remained end other after t m is move stay =
    subst (λ xs. MovedCompletion end other after t (record t { packets = xs })) (sym (cond-true (stays m) t.packets (spread m 0 t.packets) stay))
    (completed end other after t t.packets is (unchanged t is) (λ n other-move goes.
    let same : stays m ≡ stays n = ap stays (move-unique t.packets end other after m n move other-move) in
    let z = sym stay ∙ same ∙ goes in absurd cc))

pub move-keeps : MoveKeeps
move-keeps end other after t u is (m, move, free, new) =
    subst (MovedCompletion end other after t) (sym new) (⊎_elim
    (λ (y : stays m ≡ true). remained end other after t m is move y)
    (λ (n : stays m ≡ false). went end other after t m is move free n)
    (cases_Bool (stays m)))

-- what `move_end` has made of the parts
pub moves-to : (t : Trace) (end other : Event) (after : Bool) (m : Move) (channels : List Channel) (packets : List Packet)
    → IsMove t.packets end other after m → IsFree t.packets m → channels ≡ t.channels → packets ≡ moved m t.packets
    → Moves t end other after (Ok (record { channels = channels; packets = packets }))
moves-to t end other after m channels packets move free a b =
    (m, move, free, ap (λ xs. table xs packets) a ∙ ap (λ ys. table t.channels ys) b)
  where
    table : List Channel → List Packet → Trace
    table xs ys = record { channels = xs; packets = ys }
