-- Cursors behind so many completions.
use Rattle.std.proofs.Common.{◌≡◌, ◌≢◌, ◌&&◌, ℕ, suc, ◌+◌, ◌*◌, ◌^◌, ◌<◌, ◌≤◌, min, bit_and, Bool, true, false, not, cond, List, [], ◌∷◌, ◌++◌, Some}
use Rattle.std.proofs.Common.{All, length, take, drop, get_or, set, slice_get, ltb, refl, sym, ap, subst, ◌∙◌, arith, ⊎_elim}
use Rattle.std.specs.Int.{bit_at}
use Rattle.std.specs.Prelude.{◌↔◌}
use Rattle.std.proofs.Math.ListN.{length-set}
use Rattle.std.proofs.lemmas.Bool.{cases_Bool, cases_eq, cases_lt, false≢true, le-ltb, lt-ltb}
use Rattle.std.proofs.lemmas.List.{get_or-set_other, get_or-set_same, take_at}
use Rattle.std.proofs.lemmas.Nat.Bits.{bit_at-zero, bit_at_above, same_from_bits}
use Rattle.std.proofs.lemmas.Option.{same_Some, slice_get-get_or, slice_get_read, slice_get_within}
use Rattle.trace_code.specs.vidi_bits.Number.{has}
use Rattle.trace_code.specs.trace_model.declared.event.Kind.{Kind}
use Rattle.trace_code.specs.trace_model.declared.event.Kind.TheVariants.{Start, End, Reset}
use Rattle.trace_code.specs.trace_model.declared.packet.Packet.{Packet}
use Rattle.trace_code.specs.trace_model.declared.row.Row.{Row}
use Rattle.trace_code.specs.trace_model.declared.trace.Trace.{Trace}
use Rattle.trace_code.specs.trace_model.Counting.{IsNth}
use Rattle.trace_code.specs.trace_model.Epoch.{epoch, resets, since_reset}
use Rattle.trace_code.specs.trace_model.Packet.{count, does}
use Rattle.trace_code.specs.trace_model.Row.{is_in_flight}
use Rattle.trace_code.specs.trace_model.Trace.{Alternates}
use Rattle.trace_code.specs.declared.cursor.Cursor.{Cursor}
use Rattle.trace_code.specs.Encoding.{Encodes}
use Rattle.trace_code.specs.Stands.{Stands, WalksOver}
use Rattle.trace_code.proofs.trace_model_lemmas.CountingLemmas.{nth, nth-below, slice_get-push}
use Rattle.trace_code.proofs.trace_model_lemmas.FlightLemmas.{balanced-all}
use Rattle.trace_code.proofs.trace_model_lemmas.MaskLemmas.{bit-from-has, no-bit-from-has}
use Rattle.trace_code.proofs.vidi_bits_lemmas.BitLemmas.{has-above, hasn't-from-bit}
use Rattle.run_stage.proofs.chan_replayer_lemmas.FedOffers.{one-below, other-bit, top-bit}
use Rattle.run_stage.proofs.chan_replayer_lemmas.Masks.{has-and}
use Rattle.run_stage.proofs.run_model_lemmas.Contents.{same-masks}
use Rattle.replay_run.specs.declared.cursors.Cursors.{Cursors}
use Rattle.replay_run.specs.Behind.{none_yet, AreAt, AreBehind, HasCursors, IsBehind, IsDone, IsShownOf}
use Rattle.replay_run.specs.Epochs.{before_epoch}
use Rattle.replay_run.proofs.Epochs.{count-epoch, epoch-there, nth-here, nth-later, nth-whole, number-epoch, quiet-packet, reset-clock}
use Rattle.replay_run.proofs.Placing.{still-below}

-- ---- a cursor
-- the events that it walks over, in the whole trace
total : (t : Trace) (e : ℕ) (kind : Kind) (c n : ℕ) (k : Cursor) → IsBehind t e kind c n k
    → count k.kind k.channel t.packets ≡ count kind c t.packets
total t e kind c n k is = ap (λ (i : Kind). count i k.channel t.packets) is.over.0 ∙ ap (λ d. count kind d t.packets) is.over.1

pub walked : (t : Trace) (e : ℕ) (kind : Kind) (c n j p : ℕ) (packet : Packet) (k : Cursor) → IsBehind t e kind c n k
    → IsNth (does kind c) t.packets j p packet → IsNth (does k.kind k.channel) t.packets j p packet
walked t e kind c n j p packet k is nth =
    subst (λ (i : Kind). IsNth (does i k.channel) t.packets j p packet) (sym is.over.0)
    (subst (λ d. IsNth (does kind d) t.packets j p packet) (sym is.over.1) nth)

quiet : (t : Trace) (e : ℕ) (kind : Kind) (c n : ℕ) (k : Cursor) → IsBehind t e kind c n k
    → All (λ (p : Packet). p.reset ≡ true → does kind c p ≡ false) t.packets
quiet t e kind c n k is =
    λ i d l r. quiet-packet t.channels kind c is.event (get_or t.packets i d) (is.stands.0.at.encoding.well_formed.packets i d l) r

-- where it stands
abbrev pub stand : Trace → ℕ → Kind → ℕ → ℕ → ℕ
stand t e kind c n = count kind c (before_epoch e t.packets) + min n (count kind c (epoch e t.packets))

-- a further event of the epoch is one of the trace
below-total : (t : Trace) (e : ℕ) (kind : Kind) (c n : ℕ) → n < count kind c (epoch e t.packets) → stand t e kind c n < count kind c t.packets
below-total t e kind c n l =
    let h = nth (does kind c) (epoch e t.packets) n l in
    let b = nth-below (does kind c) t.packets _ _ h.item (nth-whole kind c e t.packets n h.place h.item h.is) in
    omega (arith, b, l)

-- whether there is a further event in the epoch: it isn't at the end, and its event is of the epoch
pub in-when : (t : Trace) (e : ℕ) (kind : Kind) (c n : ℕ) (k : Cursor) (ended : Bool) (number : ℕ) → IsBehind t e kind c n k
    → ((j : ℕ) → Stands k t j → (ended ≡ true) ↔ (count k.kind k.channel t.packets ≤ j))
    → ((j p : ℕ) (packet : Packet) → Stands k t j → IsNth (does k.kind k.channel) t.packets j p packet → number ≡ resets (take p t.packets))
    → ended ≡ false → (number ≡ e) ↔ (n < count kind c (epoch e t.packets))
in-when t e kind c n k ended number is says told f =
    let same = total t e kind c n k is in
    let j = stand t e kind c n in
    let open_yet : j < count kind c t.packets = ⊎_elim
    (λ (l : j < count kind c t.packets). l)
    (λ (l : count kind c t.packets ≤ j). absurd (false≢true (sym f ∙ (says j is.stands).1 (omega (arith, l, same)))))
    (cases_lt j (count kind c t.packets)) in
    let h = nth (does kind c) t.packets j open_yet in
    let n-is : number ≡ resets (take h.place t.packets) = told j h.place h.item is.stands (walked t e kind c n j h.place h.item k is h.is) in (
      λ (same_epoch : number ≡ e). ⊎_elim
          (λ (l : n < count kind c (epoch e t.packets)). l)
          (λ (l : count kind c (epoch e t.packets) ≤ n). absurd
          (let later = nth-later kind c e t.packets (quiet t e kind c n k is) h.place h.item
          (subst (λ i. IsNth (does kind c) t.packets i h.place h.item) (omega (arith, l)) h.is) in omega (arith, later, n-is, same_epoch)))
          (cases_lt n (count kind c (epoch e t.packets))),
      λ (l : n < count kind c (epoch e t.packets)).
          (let here = nth-here kind c e t.packets n h.place h.item
          (subst (λ i. IsNth (does kind c) t.packets i h.place h.item) (omega (arith, l)) h.is) l in
          let w = here.within in
          n-is ∙ ap (λ p. resets (take p t.packets)) here.at
          ∙ number-epoch e t.packets here.place (epoch-there kind c e n t.packets l) (omega (arith, w))),
    )

pub in-ended : (t : Trace) (e : ℕ) (kind : Kind) (c n : ℕ) (k : Cursor) (ended : Bool) → IsBehind t e kind c n k
    → ((j : ℕ) → Stands k t j → (ended ≡ true) ↔ (count k.kind k.channel t.packets ≤ j))
    → ended ≡ true → (not ended ≡ true) ↔ (n < count kind c (epoch e t.packets))
in-ended t e kind c n k ended is says f =
    let same = total t e kind c n k is in
    let all = (says (stand t e kind c n) is.stands).0 f in (
      λ b. absurd (false≢true (ap not (sym f) ∙ b)),
      λ (l : n < count kind c (epoch e t.packets)). absurd (let b = below-total t e kind c n l in omega (arith, b, all, same)),
    )

pub up-when : {P : Type 0} (r : Bool) → r ≡ true → ((r ≡ true) ↔ P) → P
up-when r e says = says.0 e

-- it may be asked for its epoch where it isn't at the end
pub may-ask : (t : Trace) (e : ℕ) (kind : Kind) (c n : ℕ) (k : Cursor) (ended : Bool) → IsBehind t e kind c n k
    → ((j : ℕ) → Stands k t j → (ended ≡ true) ↔ (count k.kind k.channel t.packets ≤ j)) → ended ≡ false
    → stand t e kind c n < count k.kind k.channel t.packets
may-ask t e kind c n k ended is says f = ⊎_elim
    (λ (l : stand t e kind c n < count k.kind k.channel t.packets). l)
    (λ (l : count k.kind k.channel t.packets ≤ stand t e kind c n). absurd (false≢true (sym f ∙ (says (stand t e kind c n) is.stands).1 l)))
    (cases_lt (stand t e kind c n) (count k.kind k.channel t.packets))

-- there is none behind the last
pub no-further : (t : Trace) (e : ℕ) (kind : Kind) (c n : ℕ) (r : Bool) → r ≡ false → ((r ≡ true) ↔ (n < count kind c (epoch e t.packets)))
    → (false ≡ true) ↔ (n + 1 < count kind c (epoch e t.packets))
no-further t e kind c n r f says = (
  λ b. absurd (false≢true b),
  λ (l : n + 1 < count kind c (epoch e t.packets)). absurd (false≢true (sym f ∙ says.1 (omega (arith, l)))),
)

pub may-step : (t : Trace) (e : ℕ) (kind : Kind) (c n : ℕ) (k : Cursor) → IsBehind t e kind c n k → n < count kind c (epoch e t.packets)
    → stand t e kind c n < count k.kind k.channel t.packets
may-step t e kind c n k is l = let same = total t e kind c n k is in let b = below-total t e kind c n l in omega (arith, b, same)

pub next : (t : Trace) (e : ℕ) (kind : Kind) (c n : ℕ) (k new : Cursor) → IsBehind t e kind c n k → n < count kind c (epoch e t.packets)
    → WalksOver new k.kind k.channel
    → ((j : ℕ) → Stands k t j → j < count k.kind k.channel t.packets → Stands new t (j + 1)) → IsBehind t e kind c (n + 1) new
next t e kind c n k new is l over goes =
    let here : stand t e kind c n + 1 ≡ stand t e kind c (n + 1) = omega (arith, l) in
    record {
      over = (over.0 ∙ is.over.0, over.1 ∙ is.over.1);
      event = is.event;
      stands = subst (Stands new t) here (goes (stand t e kind c n) is.stands (may-step t e kind c n k is l));
    }

-- behind its last one it stays
pub still : (t : Trace) (e : ℕ) (kind : Kind) (c n m : ℕ) (k : Cursor) → IsBehind t e kind c n k → count kind c (epoch e t.packets) ≤ n
    → count kind c (epoch e t.packets) ≤ m → IsBehind t e kind c m k
still t e kind c n m k is l h =
    let here : stand t e kind c n ≡ stand t e kind c m = omega (arith, l, h) in
    record { over = is.over; event = is.event; stands = subst (Stands k t) here is.stands }

pub stays : (t : Trace) (e : ℕ) (kind : Kind) (c n : ℕ) (k : Cursor) (r : Bool) → r ≡ false
    → ((r ≡ true) ↔ (n < count kind c (epoch e t.packets))) → IsBehind t e kind c n k → IsBehind t e kind c (n + 1) k
stays t e kind c n k r f says is = ⊎_elim
    (λ (l : n < count kind c (epoch e t.packets)). absurd (false≢true (sym f ∙ says.1 l)))
    (λ (l : count kind c (epoch e t.packets) ≤ n). still t e kind c n (n + 1) k is l (omega (arith, l)))
    (cases_lt n (count kind c (epoch e t.packets)))

-- behind all of an epoch it stands before the next one
pub turned : (t : Trace) (e : ℕ) (kind : Kind) (c n : ℕ) (k : Cursor) → IsBehind t e kind c n k → count kind c (epoch e t.packets) ≤ n
    → IsBehind t (suc e) kind c 0 k
turned t e kind c n k is l =
    let sum = count-epoch kind c e t.packets (quiet t e kind c n k is) in
    let here : stand t e kind c n ≡ stand t (suc e) kind c 0 = omega (arith, sum, l) in
    record { over = is.over; event = is.event; stands = subst (Stands k t) here is.stands }

-- ---- the cursor of a channel
pub cursor-there : (t : Trace) (e : ℕ) (kind : Kind) (have : ℕ → ℕ) (cursors : List Cursor) (c : ℕ) (k : Cursor) → HasCursors t e kind have cursors
    → c < length cursors → k ≡ get_or cursors c k → IsBehind t e kind c (have c) k
cursor-there t e kind have cursors c k are l is = are.each c k (slice_get_read cursors (length cursors) c k refl l is)

-- the trace of cursors has no more channels than a mask has bits
pub few-channels : (t : Trace) (e : ℕ) (kind : Kind) (c n : ℕ) (k : Cursor) → IsBehind t e kind c n k → length t.channels ≤ 128
few-channels t e kind c n k is = let few = is.stands.0.at.encoding.table.few in omega (arith, few)

-- ---- all of them
abbrev pub moved : (ℕ → ℕ) → ℕ → ℕ → ℕ → ℕ
moved have ends c d = have d + cond (ltb d c) (bit_at ends d) 0

moved-other : (have : ℕ → ℕ) (ends c d : ℕ) → (d ≡ c → ⊥) → moved have ends c d ≡ moved have ends (c + 1) d
moved-other have ends c d ne = ⊎_elim
    (λ (l : d < c). ap (λ b. have d + cond b (bit_at ends d) 0) (lt-ltb d c l ∙ sym (lt-ltb d (c + 1) (omega (arith, l)))))
    (λ (l : c ≤ d). ap (λ b. have d + cond b (bit_at ends d) 0) (le-ltb d c l ∙ sym (le-ltb d (c + 1) (omega (arith, l, ne)))))
    (cases_lt d c)

moved-here : (have : ℕ → ℕ) (ends c : ℕ) → moved have ends (c + 1) c ≡ moved have ends c c + bit_at ends c
moved-here have ends c =
    let a : moved have ends (c + 1) c ≡ have c + bit_at ends c = ap (λ b. have c + cond b (bit_at ends c) 0) (lt-ltb c (c + 1) (omega arith)) in
    let b : moved have ends c c ≡ have c + 0 = ap (λ b. have c + cond b (bit_at ends c) 0) (le-ltb c c (omega arith)) in
    omega (arith, a, b)

-- as many completions, said in another way
more-same : (b : Bool) (n m count : ℕ) → n ≡ m → ((b ≡ true) ↔ (n < count)) → (b ≡ true) ↔ (m < count)
more-same b n m count e says = (λ up. (let l = says.0 up in omega (arith, l, e)), λ (l : m < count). says.1 (omega (arith, l, e)))

along : {P : Type 0} (a b : Bool) → b ≡ a → ((a ≡ true) ↔ P) → (b ≡ true) ↔ P
along a b e p = (λ t. p.0 (sym e ∙ t), λ q. e ∙ p.1 q)

same-have : (t : Trace) (e : ℕ) (kind : Kind) (have new : ℕ → ℕ) (cursors : List Cursor) (mask : ℕ) → ((d : ℕ) → d < length cursors → have d ≡ new d)
    → AreAt t e kind have cursors mask → AreAt t e kind new cursors mask
same-have t e kind have new cursors mask same are = record {
  all = record {
    many = are.all.many;
    each = λ d k at. subst (λ m. IsBehind t e kind d m k) (same d (slice_get_within cursors d k at)) (are.all.each d k at);
  };
  named = record {
    below = are.named.below;
    more = λ d l. more-same (has mask d) (have d) (new d) (count kind d (epoch e t.packets))
        (same d (let m = are.all.many in omega (arith, l, m))) (are.named.more d l);
  };
}

pub moved-one : (t : Trace) (e : ℕ) (kind : Kind) (have : ℕ → ℕ) (ends c : ℕ) (cursors : List Cursor) (mask left : ℕ) (new : Cursor) (r : Bool)
    → c < length cursors → has ends c ≡ true → AreAt t e kind (moved have ends c) cursors mask
    → IsBehind t e kind c (moved have ends c c + 1) new → ((r ≡ true) ↔ (moved have ends c c + 1 < count kind c (epoch e t.packets)))
    → has left c ≡ r → ((d : ℕ) → d ≢ c → has left d ≡ has mask d) → AreAt t e kind (moved have ends (c + 1)) (set cursors c new) left
moved-one t e kind have ends c cursors mask left new r l up are is further own others =
    let gone : moved have ends c c + 1 ≡ moved have ends (c + 1) c =
    ap (λ b. moved have ends c c + b) (sym (bit-from-has ends c up)) ∙ sym (moved-here have ends c) in
    record {
      all = record {
        many = length-set cursors c new ∙ are.all.many;
        each = λ d k at. ⊎_elim
            (λ (here : d ≡ c).
            let there : slice_get (set cursors c new) d ≡ Some new =
            slice_get-get_or (set cursors c new) d new (omega (arith, here, l, length-set cursors c new)) ∙ ap Some (ap (λ i. get_or (set cursors c new) i new) here ∙ get_or-set_same cursors c new new l) in
            let same : new ≡ k = same_Some new k (sym there ∙ at) in
            let n : moved have ends c c + 1 ≡ moved have ends (c + 1) d = gone ∙ ap (moved have ends (c + 1)) (sym here) in
            subst (λ i. IsBehind t e kind i (moved have ends (c + 1) d) k) (sym here)
            (subst (λ m. IsBehind t e kind c m k) n (subst (IsBehind t e kind c (moved have ends c c + 1)) same is)))
            (λ (ne : d ≡ c → ⊥).
            let within = slice_get_within (set cursors c new) d k at in
            let back : slice_get cursors d ≡ Some k =
            slice_get-get_or cursors d k (omega (arith, within, length-set cursors c new))
            ∙ ap Some (sym (get_or-set_other cursors c d new k ne) ∙ same_Some (get_or (set cursors c new) d k) k (sym (slice_get-get_or (set cursors c new) d k within) ∙ at)) in
            subst (λ m. IsBehind t e kind d m k) (moved-other have ends c d ne) (are.all.each d k back))
            (cases_eq d c);
      };
      named = record {
        below = still-below mask left c (length t.channels) (let m = are.all.many in omega (arith, l, m)) are.named.below others;
        more = λ d m. ⊎_elim
            (λ (here : d ≡ c). subst (λ i. (has left i ≡ true) ↔ (moved have ends (c + 1) i < count kind i (epoch e t.packets))) (sym here)
            (more-same (has left c) (moved have ends c c + 1) (moved have ends (c + 1) c) (count kind c (epoch e t.packets)) gone
            (along r (has left c) own further)))
            (λ (ne : d ≡ c → ⊥). more-same (has left d) (moved have ends c d) (moved have ends (c + 1) d) (count kind d (epoch e t.packets))
            (moved-other have ends c d ne) (along (has mask d) (has left d) (others d ne) (are.named.more d m)))
            (cases_eq d c);
      };
    }

pub moved-none : (t : Trace) (e : ℕ) (kind : Kind) (have : ℕ → ℕ) (ends c : ℕ) (cursors : List Cursor) (mask : ℕ) → has ends c ≡ false
    → AreAt t e kind (moved have ends c) cursors mask → AreAt t e kind (moved have ends (c + 1)) cursors mask
moved-none t e kind have ends c cursors mask down are = same-have t e kind (moved have ends c) (moved have ends (c + 1)) cursors mask
    (λ d l. ⊎_elim
    (λ (here : d ≡ c). ap (moved have ends c) here ∙ (let h = moved-here have ends c in let z = no-bit-from-has ends c down in
    let w : moved have ends c c ≡ moved have ends (c + 1) c = omega (arith, h, z) in w) ∙ ap (moved have ends (c + 1)) (sym here))
    (λ (ne : d ≡ c → ⊥). moved-other have ends c d ne)
    (cases_eq d c)) are

pub moved-first : (t : Trace) (e : ℕ) (kind : Kind) (have : ℕ → ℕ) (ends : ℕ) (cursors : List Cursor) (mask : ℕ) → AreAt t e kind have cursors mask
    → AreAt t e kind (moved have ends 0) cursors mask
moved-first t e kind have ends cursors mask are = same-have t e kind have (moved have ends 0) cursors mask
    (λ d l. sym (ap (λ b. have d + cond b (bit_at ends d) 0) (le-ltb d 0 (omega arith)) ∙ omega arith)) are

pub moved-all : (t : Trace) (e : ℕ) (kind : Kind) (have : ℕ → ℕ) (ends c : ℕ) (cursors : List Cursor) (mask : ℕ) → length cursors ≤ c
    → AreAt t e kind (moved have ends c) cursors mask → AreAt t e kind (λ d. have d + bit_at ends d) cursors mask
moved-all t e kind have ends c cursors mask l are = same-have t e kind (moved have ends c) (λ d. have d + bit_at ends d) cursors mask
    (λ d within. ap (λ b. have d + cond b (bit_at ends d) 0) (lt-ltb d c (omega (arith, within, l)))) are

pub whole : (n : ℕ) (xs ys : List Cursor) → length xs ≡ n → take n (xs ++ drop (length xs) ys) ≡ xs
whole n xs ys e = ap (λ k. take k (xs ++ drop (length xs) ys)) (sym e) ∙ take_at xs (drop (length xs) ys) (length xs) refl

-- ---- before anything has completed in an epoch
pub opened-more : (kind : Kind) (bytes : List ℕ) (n : ℕ) (cursors new : List Cursor) (k : Cursor) → kind ≢ Reset → length cursors ≡ n
    → new ≡ cursors ++ k ∷ [] → WalksOver k kind n → ((t : Trace) → Encodes t bytes → Stands k t 0)
    → ((t : Trace) → Encodes t bytes → (d : ℕ) (i : Cursor) → slice_get cursors d ≡ Some i → IsBehind t 0 kind d 0 i)
    → (t : Trace) → Encodes t bytes → (d : ℕ) (i : Cursor) → slice_get new d ≡ Some i → IsBehind t 0 kind d 0 i
opened-more kind bytes n cursors new k event long same over stands each t is d i at = ⊎_elim
    (λ (a : (d < length cursors) × (slice_get cursors d ≡ Some i)). each t is d i a.1)
    (λ (a : (d ≡ length cursors) × (k ≡ i)).
    let here : n ≡ d = sym (a.0 ∙ long) in
    let none : 0 ≡ stand t 0 kind n 0 = omega arith in
    subst (λ m. IsBehind t 0 kind m 0 i) here (subst (IsBehind t 0 kind n 0) a.1
    (record { over = over; event = event; stands = subst (Stands k t) none (stands t is) })))
    (slice_get-push cursors k i d (ap (λ ks. slice_get ks d) (sym same) ∙ at))

-- a mask of one channel more
pub named-more : (t : Trace) (e : ℕ) (kind : Kind) (have : ℕ → ℕ) (n mask new : ℕ) (r : Bool) → mask < 2 ^ n → new ≡ cond r 1 0 * 2 ^ n + mask
    → ((r ≡ true) ↔ (have n < count kind n (epoch e t.packets)))
    → ((d : ℕ) → d < n → (has mask d ≡ true) ↔ (have d < count kind d (epoch e t.packets)))
    → (d : ℕ) → d < n + 1 → (has new d ≡ true) ↔ (have d < count kind d (epoch e t.packets))
named-more t e kind have n mask new r small same says each d l = ⊎_elim
    (λ (here : d ≡ n). subst (λ i. (has new i ≡ true) ↔ (have i < count kind i (epoch e t.packets))) (sym here)
    (along r (has new n) (ap (λ m. has m n) same ∙ top-bit r n mask small) says))
    (λ (ne : d ≡ n → ⊥). along (has mask d) (has new d) (ap (λ m. has m d) same ∙ other-bit r n mask d small ne) (each d (omega (arith, l, ne))))
    (cases_eq d n)

pub named-below : (n mask new : ℕ) (r : Bool) → mask < 2 ^ n → new ≡ cond r 1 0 * 2 ^ n + mask → new < 2 ^ (n + 1)
named-below n mask new r small e =
    let l = one-below r n mask small in
    let s : n + 1 ≡ suc n = omega arith in
    subst (λ m. new < 2 ^ m) (sym s) (subst (λ m. m < 2 ^ suc n) (sym e) l)

-- all cursors behind an epoch
pub all-turned : (t : Trace) (e : ℕ) (kind : Kind) (have : ℕ → ℕ) (cursors : List Cursor) → HasCursors t e kind have cursors
    → ((c : ℕ) → c < length t.channels → count kind c (epoch e t.packets) ≤ have c) → HasCursors t (suc e) kind none_yet cursors
all-turned t e kind have cursors are past = record {
  many = are.many;
  each = λ c k at. turned t e kind c (have c) k (are.each c k at)
      (past c (let l = slice_get_within cursors c k at in let m = are.many in omega (arith, l, m)));
}

-- ---- whether the trace has ended, by masks
flight-flag : (v g r : Bool) → ((v && g) && not r) ≡ ((v && g) && not ((v && g) && r))
flight-flag true true r = refl
flight-flag true false r = refl
flight-flag false g r = refl

pub flight-is : (row : Row) (c shown : ℕ) (flies : Bool) → shown ≡ bit_and row.valids row.gates → flies ≡ (has shown c && not (has row.readies c))
    → flies ≡ is_in_flight row c
flight-is row c shown flies e is =
    is ∙ ap (λ m. has m c && not (has row.readies c)) e ∙ ap (λ b. b && not (has row.readies c)) (has-and row.valids row.gates c)
    ∙ flight-flag (has row.valids c) (has row.gates c) (has row.readies c)

-- no bit is up
none-up : (mask c : ℕ) → mask ≡ 0 → bit_at mask c ≡ 0
none-up mask c e = ap (λ m. bit_at m c) e ∙ bit_at-zero c

-- all starts of a mask are of channels in flight where none of the others is left
pub flying-when : (starts flight left : ℕ) (last : Row) → ((c : ℕ) → has flight c ≡ is_in_flight last c)
    → ((c : ℕ) → has left c ≡ (has starts c && not (has flight c))) → left ≡ 0 → (c : ℕ) → has starts c ≡ true → is_in_flight last c ≡ true
flying-when starts flight left last is each none c up = one (is_in_flight last c) refl
  where
    one : (b : Bool) → is_in_flight last c ≡ b → is_in_flight last c ≡ true
    one true f = f
    one false f = absurd (false≢true (sym (hasn't-from-bit left c (none-up left c none)) ∙ each c
        ∙ ap (λ b. b && not (has flight c)) up ∙ ap not (is c ∙ f)))

pub none-when : (starts flight left : ℕ) (last : Row) → ((c : ℕ) → has flight c ≡ is_in_flight last c)
    → ((c : ℕ) → has left c ≡ (has starts c && not (has flight c))) → ((c : ℕ) → has starts c ≡ true → is_in_flight last c ≡ true) → left ≡ 0
none-when starts flight left last is each flying = same-masks left 0 (λ c. each c ∙ one c (has starts c) refl ∙ sym (hasn't-from-bit 0 c (bit_at-zero c)))
  where
    one : (c : ℕ) (b : Bool) → has starts c ≡ b → (b && not (has flight c)) ≡ false
    one c true up = ap not (is c ∙ flying c up)
    one c false down = refl

zero-when : (mask n : ℕ) → mask < 2 ^ n → ((c : ℕ) → c < n → bit_at mask c ≡ 0) → mask ≡ 0
zero-when mask n small none = same_from_bits mask 0 (λ c. ⊎_elim
    (λ (l : c < n). none c l)
    (λ (l : n ≤ c). bit_at_above mask n c small l)
    (cases_lt c n) ∙ sym (bit_at-zero c))

module _ (t : Trace) (have : ℕ → ℕ) (cursors : Cursors) (are : AreBehind t have cursors) where
  abbrev Here : List Packet
  Here = epoch cursors.epoch t.packets

  none-left : (kind : Kind) (c mask : ℕ) → ((has mask c ≡ true) ↔ (have c < count kind c Here)) → has mask c ≡ false → count kind c Here ≤ have c
  none-left kind c mask says z = ⊎_elim
      (λ (l : have c < count kind c Here). absurd (false≢true (sym z ∙ says.1 l)))
      (λ (l : count kind c Here ≤ have c). l)
      (cases_lt (have c) (count kind c Here))

  not-left : (kind : Kind) (c mask : ℕ) → ((has mask c ≡ true) ↔ (have c < count kind c Here)) → count kind c Here ≤ have c → bit_at mask c ≡ 0
  not-left kind c mask says l = ⊎_elim
      (λ (up : has mask c ≡ true). absurd (let m = says.0 up in omega (arith, m, l)))
      (λ (down : has mask c ≡ false). no-bit-from-has mask c down)
      (cases_Bool (has mask c))

  -- no completion is left
  pub ends-none : cursors.ends.more ≡ 0 → (c : ℕ) → c < length t.channels → count End c Here ≤ have c
  ends-none none c l = none-left End c cursors.ends.more (are.ends.named.more c l) (hasn't-from-bit cursors.ends.more c (none-up cursors.ends.more c none))

  pub ends-done : ((c : ℕ) → c < length t.channels → count End c Here ≤ have c) → cursors.ends.more ≡ 0
  ends-done all = zero-when cursors.ends.more (length t.channels) are.ends.named.below
      (λ c l. not-left End c cursors.ends.more (are.ends.named.more c l) (all c l))

  -- whether there is a further event on a channel
  pub next-on : (kind : Kind) (c : ℕ) (r : Bool) (mask : ℕ) → r ≡ has mask c → ((has mask c ≡ true) ↔ (have c < count kind c Here))
      → (r ≡ true) ↔ (have c < count kind c Here)
  next-on kind c r mask e says = along (has mask c) r e says

  -- whether there is a later epoch
  pub resets-are : count cursors.reset.kind cursors.reset.channel t.packets ≡ resets t.packets
  resets-are = ap (λ (i : Kind). count i cursors.reset.channel t.packets) are.over.0

  abbrev pub SaysEnd : Bool → Type 0
  SaysEnd r = (u : Trace) (j : ℕ) → Stands cursors.reset u j → (r ≡ true) ↔ (count cursors.reset.kind cursors.reset.channel u.packets ≤ j)

  pub last-when : (r : Bool) → SaysEnd r → (r ≡ true) ↔ (cursors.epoch ≡ resets t.packets)
  last-when r says =
      let s = says t cursors.epoch are.reset in
      let same = resets-are in
      let within = are.within in (
        λ e. (let l = s.0 e in omega (arith, l, same, within)),
        λ (e : cursors.epoch ≡ resets t.packets). s.1 (omega (arith, e, same)),
      )

  pub later-when : (r : Bool) → SaysEnd r → (not r ≡ true) ↔ (cursors.epoch < resets t.packets)
  later-when true says = (
    λ e. absurd (false≢true e),
    λ (l : cursors.epoch < resets t.packets). absurd (let e = (last-when true says).0 refl in omega (arith, e, l)),
  )
  later-when false says = (
    λ e. ⊎_elim
        (λ (l : cursors.epoch < resets t.packets). l)
        (λ (l : resets t.packets ≤ cursors.epoch).
        absurd (false≢true ((last-when false says).1 (let within = are.within in omega (arith, l, within)))))
        (cases_lt cursors.epoch (resets t.packets)),
    λ l. refl,
  )

  -- its clock is the completions of the epoch
  pub reset-is : (j p : ℕ) (packet : Packet) → IsNth (does cursors.reset.kind cursors.reset.channel) t.packets cursors.epoch p packet
      → since_reset (take p t.packets) ≡ Here
  reset-is j p packet nth = reset-clock cursors.epoch t.packets cursors.reset.channel p packet
      (subst (λ (i : Kind). IsNth (does i cursors.reset.channel) t.packets cursors.epoch p packet) are.over.0 nth)

  alternate : Alternates Here
  alternate = are.reset.0.at.encoding.well_formed.alternate cursors.epoch

  -- a start without a completion is the only one on its channel
  pub starts-few : (c : ℕ) → count Start c Here ≤ count End c Here + 1
  starts-few c = let m = (balanced-all Here alternate c).most in omega (arith, m)

  -- the starts that are left, of the channels that are wanted, are of channels in flight
  module _ (last : Row) (wanted : ℕ → Bool) where
    abbrev AreFlying : Type 0
    AreFlying = (c : ℕ) → has cursors.starts.more c ≡ true → wanted c ≡ true → is_in_flight last c ≡ true

    abbrev AreThere : Type 0
    AreThere = (c : ℕ) → c < length t.channels → wanted c ≡ true → count Start c Here ≤ have c + cond (is_in_flight last c) 1 0

    pub starts-there : cursors.ends.more ≡ 0 → AreFlying → AreThere
    starts-there none flying c l up = one (is_in_flight last c) refl
      where
        one : (b : Bool) → is_in_flight last c ≡ b → count Start c Here ≤ have c + cond b 1 0
        one true f = let few = starts-few c in let ends = ends-none none c l in omega (arith, few, ends)
        one false f =
            let w = none-left Start c cursors.starts.more (are.starts.named.more c l) (⊎_elim
            (λ (more : has cursors.starts.more c ≡ true). absurd (false≢true (sym f ∙ flying c more up)))
            (λ (down : has cursors.starts.more c ≡ false). down)
            (cases_Bool (has cursors.starts.more c))) in omega (arith, w)

    pub starts-flying : AreThere → AreFlying
    starts-flying there c more up = ⊎_elim
        (λ (l : c < length t.channels). one l (is_in_flight last c) refl)
        (λ (l : length t.channels ≤ c). absurd (false≢true
        (sym (has-above cursors.starts.more (length t.channels) c are.starts.named.below l) ∙ more)))
        (cases_lt c (length t.channels))
      where
        one : c < length t.channels → (b : Bool) → is_in_flight last c ≡ b → is_in_flight last c ≡ true
        one l true f = f
        one l false f =
            let s = there c l up in
            let z : cond {A = ℕ} (is_in_flight last c) 1 0 ≡ 0 = ap (λ b. cond {A = ℕ} b 1 0) f in
            let m = (are.starts.named.more c l).0 more in absurd (omega (arith, s, z, m))

  -- all starts are passed where those that are left count as completed
  pub starts-past : ((c : ℕ) → c < length t.channels → count End c Here ≤ have c) → (c : ℕ) → c < length t.channels
      → count Start c Here ≤ have c + bit_at cursors.starts.more c
  starts-past ends c l = ⊎_elim
      (λ (up : has cursors.starts.more c ≡ true).
      let one = bit-from-has cursors.starts.more c up in let few = starts-few c in let m = ends c l in omega (arith, one, few, m))
      (λ (down : has cursors.starts.more c ≡ false). let w = none-left Start c cursors.starts.more (are.starts.named.more c l) down in omega (arith, w))
      (cases_Bool (has cursors.starts.more c))

-- ---- what is asked of the cursors
-- what tells that all of the epoch is there
module _ (t : Trace) (have : ℕ → ℕ) (cursors : Cursors) (last : Row) (are : AreBehind t have cursors) where
  abbrev Here-of : List Packet
  Here-of = epoch cursors.epoch t.packets

  abbrev AllDone : Type 0
  AllDone = (c : ℕ) → c < length t.channels → IsDone Here-of have last c

  pub ended-shown : AllDone → (cursors.ends.more ≡ 0) × ((c : ℕ) → has cursors.starts.more c ≡ true → is_in_flight last c ≡ true)
  ended-shown all = (
    ends-done t have cursors are (λ c l. (all c l).ends),
    λ c up. starts-flying t have cursors are last (λ _. true) (λ d l _. (all d l).starts) c up refl,
  )

  shown-ended : cursors.ends.more ≡ 0 → ((c : ℕ) → has cursors.starts.more c ≡ true → is_in_flight last c ≡ true) → AllDone
  shown-ended none flying c l = record {
    ends = ends-none t have cursors are none c l;
    starts = starts-there t have cursors are last (λ _. true) none (λ d up _. flying d up) c l refl;
  }

  -- the same but for starts of channels that aren't inward
  module _ (inward asked : ℕ) (both : asked ≡ bit_and cursors.starts.more inward) where
    abbrev AllShown : Type 0
    AllShown = (c : ℕ) → c < length t.channels → IsShownOf inward Here-of have last c

    asked-is : (c : ℕ) → has asked c ≡ (has cursors.starts.more c && has inward c)
    asked-is c = ap (λ m. has m c) both ∙ has-and cursors.starts.more inward c

    shown-inward : cursors.ends.more ≡ 0 → ((c : ℕ) → has asked c ≡ true → is_in_flight last c ≡ true) → AllShown
    shown-inward none flying c l = record {
      ends = ends-none t have cursors are none c l;
      starts = λ up. starts-there t have cursors are last (has inward) none
          (λ d more on. flying d (asked-is d ∙ ap (λ b. b && has inward d) more ∙ on)) c l up;
    }

    pub turns-shown : AllShown → (cursors.ends.more ≡ 0) × ((c : ℕ) → has asked c ≡ true → is_in_flight last c ≡ true)
    turns-shown all = (
      ends-done t have cursors are (λ c l. (all c l).ends),
      λ c up. (let w = and-both (has cursors.starts.more c) (has inward c) (sym (asked-is c) ∙ up) in
          starts-flying t have cursors are last (has inward) (λ d l on. (all d l).starts on) c w.0 w.1),
    )
      where
        and-both : (a b : Bool) → (a && b) ≡ true → (a ≡ true) × (b ≡ true)
        and-both true b e = (refl, e)
        and-both false b e = absurd (false≢true e)

module _ (t : Trace) (have : ℕ → ℕ) (cursors : Cursors) (last : Row) (r : Bool) (are : AreBehind t have cursors)
    (says : SaysEnd t have cursors are r) where
  -- whether the epoch is the last one and all of it is there
  pub ended-yes : cursors.ends.more ≡ 0 → ((c : ℕ) → has cursors.starts.more c ≡ true → is_in_flight last c ≡ true)
      → (r ≡ true) ↔ ((cursors.epoch ≡ resets t.packets) × AllDone t have cursors last are)
  ended-yes none flying = (
    λ e. ((last-when t have cursors are r says).0 e, shown-ended t have cursors last are none flying),
    λ (x : (cursors.epoch ≡ resets t.packets) × AllDone t have cursors last are). (last-when t have cursors are r says).1 x.0,
  )

  -- whether there is a later one and all of it is there that a replay has to show before
  pub turns-yes : (inward asked : ℕ) (both : asked ≡ bit_and cursors.starts.more inward) → cursors.ends.more ≡ 0
      → ((c : ℕ) → has asked c ≡ true → is_in_flight last c ≡ true)
      → (not r ≡ true) ↔ ((cursors.epoch < resets t.packets) × AllShown t have cursors last are inward asked both)
  turns-yes inward asked both none flying = (
    λ e. ((later-when t have cursors are r says).0 e, shown-inward t have cursors last are inward asked both none flying),
    λ (x : (cursors.epoch < resets t.packets) × AllShown t have cursors last are inward asked both). (later-when t have cursors are r says).1 x.0,
  )

-- ---- the next epoch
module _ (t : Trace) (have : ℕ → ℕ) (cursors : Cursors) (are : AreBehind t have cursors)
    (ends : (c : ℕ) → c < length t.channels → count End c (epoch cursors.epoch t.packets) ≤ have c) where
  on : suc cursors.epoch ≡ cursors.epoch + 1
  on = omega arith

  -- the starts that are left are passed
  pub starts-next : (new : List Cursor) (mask : ℕ) → AreAt t cursors.epoch Start (λ d. have d + bit_at cursors.starts.more d) new mask
      → HasCursors t (cursors.epoch + 1) Start none_yet new
  starts-next new mask at = subst (λ e. HasCursors t e Start none_yet new) on
      (all-turned t cursors.epoch Start (λ d. have d + bit_at cursors.starts.more d) new at.all (starts-past t have cursors are ends))

  pub ends-next : HasCursors t (cursors.epoch + 1) End none_yet cursors.ends.cursors.items
  ends-next = subst (λ e. HasCursors t e End none_yet cursors.ends.cursors.items) on
      (all-turned t cursors.epoch End have cursors.ends.cursors.items are.ends.all ends)
