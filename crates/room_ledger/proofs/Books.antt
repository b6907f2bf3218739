-- What the calls of a `Room` do to its ledger, and that it stays sound.
use Rattle.std.proofs.Common.{◌≡◌, ◌≢◌, ◌↔◌, ℕ, ◌+◌, ◌-◌, ◌*◌, ◌%◌, ◌<◌, ◌≤◌, ◌^◌, ◌&&◌, ◌||◌, ◌==◌, Bool, IsTrue, true, false, not}
use Rattle.std.proofs.Common.{cond, map, List, [], ◌∷◌, length, bit_and, bit_or, sum_by, leb, refl, ap, sym, subst, ◌∙◌, ⊎_elim, arith}
use Rattle.std.proofs.Common.{leb-true, le-leb}
use Rattle.std.proofs.Math.Nat.{pow-le-pow_right}
use Rattle.std.proofs.lemmas.Bool.{cases_Bool, cases_eq, cases_lt, false≢true, eqb-true, eq-eqb, or_right, and_from}
use Rattle.std.proofs.lemmas.List.Sums.{sum_by-cons}
use Rattle.std.proofs.lemmas.Nat.{and_le_l, or_lt, pow_pos, mod_below}
use Rattle.std.proofs.lemmas.Nat.Bits.{same_from_bits}
use Rattle.std.proofs.lemmas.List.{length-map}
use Rattle.trace_model.specs.vidi_bits.Number.{has}
use Rattle.trace_model.proofs.vidi_bits_lemmas.Bools.{and_not_false}
use Rattle.trace_model.proofs.vidi_bits_lemmas.BitLemmas.{bit_at-mod, bit_at-mod_above, has-above}
use Rattle.trace_model.specs.declared.channel.Channel.{Channel}
use Rattle.trace_model.specs.Channel.{content_bytes}
use Rattle.trace_model.specs.Length.{head_len, sizes_under}
use Rattle.trace_model.proofs.MaskLemmas.{some-bit, has-from-bit, no-bit-from-has}
use Rattle.trace_model.specs.Mask.{all_up}
use Rattle.room_ledger.specs.Reservation.{whole, need, least, reservation, reserved, event_len, reset_len, permit_room}
use Rattle.room_ledger.specs.Raising.{raise}
use Rattle.room_ledger.specs.Ledger.{Ledger, ledger, empty, claimed, may_reset, permit_after, IsSound, MayEmit, Emitted, IsReset, Regranted}
use Rattle.room_ledger.proofs.Masks.{same-masks, has-or, has-without, has-zero}
use Rattle.trace_model.proofs.LengthLemmas.{total}
use Rattle.room_ledger.proofs.Totals.{total-le}
use Rattle.room_ledger.proofs.Emission.{IsLawful, packet-fits, pays-all}
use Rattle.room_ledger.proofs.Raising.{raised-from}
use Rattle.room_ledger.proofs.Reserving.{none-room, least-is, reserved-need, raised-reserved, raised-within, are-raised}

-- ---- emit
abbrev up-after : Ledger → ℕ → ℕ → Bool
up-after l ends c = has l.gates c && not (has ends c)

abbrev flies-after : Ledger → ℕ → ℕ → ℕ → Bool
flies-after l starts ends c = (has l.flying c || has starts c) && not (has ends c)

lawful : (l : Ledger) (starts ends : ℕ) → IsSound l → MayEmit l starts ends → IsLawful (has l.gates) (has l.flying) (has starts) (has ends)
lawful l starts ends sound may = record { start = may.start; complete = may.complete; within = sound.flying }

-- a channel that starts or ends has its gate up, so it is there
either-up : (g f s e : Bool) → (s ≡ true → (g ≡ true) × (f ≡ false)) → (e ≡ true → (f || s) ≡ true) → (f ≡ true → g ≡ true) → (s || e)
    ≡ true → g ≡ true
either-up g f true e start complete within h = (start refl).0
either-up g true false true start complete within h = within refl
either-up g false false true start complete within h = absurd (let x = complete refl in cc)
either-up g f false false start complete within h = absurd (cc)

up-within : (gates n c : ℕ) → gates < 2 ^ n → has gates c ≡ true → c < n
up-within gates n c l h = ⊎_elim (λ (k : c < n). k) (λ (k : n ≤ c). absurd (false≢true (sym (has-above gates n c l k) ∙ h))) (cases_lt c n)

-- some channel has an event
left-true : (a b : Bool) → a ≡ true → (a || b) ≡ true
left-true a b h = rw h refl

both-zero : (starts ends : ℕ) → starts ≡ 0 → ends ≡ 0 → (starts == 0 && ends == 0) ≡ true
both-zero starts ends h k = rw (h, k) refl

some-event : (starts ends : ℕ) → starts < 2 ^ 128 → ends < 2 ^ 128 → (starts == 0 && ends == 0) ≡ false → (c : ℕ)
    × ((has starts c || has ends c) ≡ true)
some-event starts ends ls le h = ⊎_elim
    (λ (none : starts ≡ 0). ⊎_elim
    (λ (also : ends ≡ 0). absurd (false≢true (sym h ∙ both-zero starts ends none also)))
    (λ (some : ends ≢ 0). let found = some-bit ends le some in (
      found.0,
      or_right (has starts found.0) (has ends found.0)
          (has-from-bit ends found.0 found.1),
    ))
    (cases_eq ends 0))
    (λ (some : starts ≢ 0). let found = some-bit starts ls some in (
      found.0,
      left-true (has starts found.0) (has ends found.0)
          (has-from-bit starts found.0 found.1),
    ))
    (cases_eq starts 0)

event-cases : (l : Ledger) (starts ends : ℕ) → IsSound l → MayEmit l starts ends → (none : Bool) → (starts == 0 && ends == 0) ≡ none
    → (none ≡ false → (c : ℕ) × ((has starts c || has ends c) ≡ true))
    → l.used + event_len l.sizes starts ends + permit_room l.resets l.permit + reserved l.sizes (up-after l ends) (flies-after l starts ends)
    ≤ l.capacity
event-cases l starts ends sound may true e some =
    let len : event_len l.sizes starts ends ≡ 0 = ap (λ b. cond b 0 (head_len (length l.sizes) + sizes_under starts l.sizes)) e in
    let pays = pays-all (head_len (length l.sizes)) (has l.gates) (has l.flying) (has starts) (has ends) (lawful l starts ends sound may) 0
    l.sizes in
    let room = sound.room in
    omega arith
event-cases l starts ends sound may false e some =
    let len : event_len l.sizes starts ends ≡ head_len (length l.sizes)
    + sizes_under starts l.sizes = ap (λ b. cond b 0 (head_len (length l.sizes) + sizes_under starts l.sizes)) e in
    let found = some refl in
    let up = either-up (has l.gates found.0) (has l.flying found.0) (has starts found.0) (has ends found.0) (may.start found.0)
    (may.complete found.0) (sound.flying found.0) found.1 in
    let pays = packet-fits (head_len (length l.sizes)) (has l.gates) (has l.flying) (has starts) (has ends) l.sizes found.0
    (lawful l starts ends sound may) (up-within l.gates (length l.sizes) found.0 sound.gates up) found.1 in
    let room = sound.room in
    omega arith

-- the packet and what is reserved afterwards are within what was reserved
pub emit-fits : (l : Ledger) (starts ends : ℕ) → starts < 2 ^ 128 → ends < 2 ^ 128 → IsSound l → MayEmit l starts ends
    → l.used + event_len l.sizes starts ends + permit_room l.resets l.permit + reserved l.sizes (up-after l ends) (flies-after l starts ends)
    ≤ l.capacity
emit-fits l starts ends ls le sound may = event-cases l starts ends sound may (starts == 0 && ends == 0) refl
    (λ h. some-event starts ends ls le h)

-- masks of at most 128 channels
below-from-bits : (x n : ℕ) → ((c : ℕ) → n ≤ c → has x c ≡ false) → x < 2 ^ n
below-from-bits x n h =
    let same : x ≡ x % 2 ^ n = same_from_bits x (x % 2 ^ n) (λ c. ⊎_elim
    (λ (l : c < n). sym (bit_at-mod x n c l))
    (λ (l : n ≤ c). no-bit-from-has x c (h c l) ∙ sym (bit_at-mod_above x n c l))
    (cases_lt c n)) in
    let below = mod_below x (2 ^ n) (pow_pos n) in
    omega arith

gates-fit : (l : Ledger) → IsSound l → l.gates < 2 ^ 128
gates-fit l sound = let p : 2 ^ length l.sizes ≤ 2 ^ 128 = pow-le-pow_right (omega arith) sound.few in omega (arith, sound.gates)

flying-fits : (l : Ledger) → IsSound l → l.flying < 2 ^ 128
flying-fits l sound = below-from-bits l.flying 128 (λ c m. ⊎_elim
    (λ (h : has l.flying c ≡ true). absurd (false≢true (sym (has-above l.gates 128 c (gates-fit l sound) m) ∙ sound.flying c h)))
    (λ (h : has l.flying c ≡ false). h)
    (cases_Bool (has l.flying c)))

-- the ledger that the code makes
abbrev pub emitted : Ledger → ℕ → ℕ → Ledger
emitted l starts ends = ledger l.sizes l.resets l.capacity (l.used + event_len l.sizes starts ends) l.permit
    (bit_and l.gates (2 ^ 128 - 1 - ends)) (bit_and (bit_or l.flying starts) (2 ^ 128 - 1 - ends))

pub emit-next : (l : Ledger) (starts ends : ℕ) → starts < 2 ^ 128 → ends < 2 ^ 128 → IsSound l
    → Emitted l starts ends (emitted l starts ends)
emit-next l starts ends ls le sound = record {
  sizes = refl;
  resets = refl;
  capacity = refl;
  used = refl;
  permit = refl;
  gates = has-without l.gates ends (gates-fit l sound) le;
  flying = λ c. has-without (bit_or l.flying starts) ends (or_lt 128 l.flying starts (flying-fits l sound) ls) le c
      ∙ ap (λ b. b && not (has ends c)) (has-or l.flying starts c);
}

pub emit-room : (l : Ledger) (starts ends : ℕ) → starts < 2 ^ 128 → ends < 2 ^ 128 → IsSound l → MayEmit l starts ends
    → claimed (emitted l starts ends) ≤ l.capacity
emit-room l starts ends ls le sound may =
    let next = emit-next l starts ends ls le sound in
    let up : up-after l ends ≡ has (bit_and l.gates (2 ^ 128 - 1 - ends)) = λ i c. sym (next.gates c) i in
    let flies : flies-after l starts ends ≡ has (bit_and (bit_or l.flying starts) (2 ^ 128 - 1 - ends)) = λ i c. sym (next.flying c) i in
    let used = l.used + event_len l.sizes starts ends + permit_room l.resets l.permit in
    subst (λ (f : ℕ → Bool). used + reserved l.sizes (has (bit_and l.gates (2 ^ 128 - 1 - ends))) f ≤ l.capacity) flies
    (subst (λ (g : ℕ → Bool). used + reserved l.sizes g (flies-after l starts ends) ≤ l.capacity) up
    (emit-fits l starts ends ls le sound may))

and-right : (a b : Bool) → (a && b) ≡ true → b ≡ true
and-right true b h = h
and-right false b h = absurd (cc)

-- what stays in flight has kept its gate
stays-up : (g f s e : Bool) → (s ≡ true → (g ≡ true) × (f ≡ false)) → (f ≡ true → g ≡ true) → ((f || s) && not e) ≡ true → (g && not e)
    ≡ true
stays-up true f s e start within h = and-right (f || s) (not e) h
stays-up false true s e start within h = absurd (let x = within refl in cc)
stays-up false false true e start within h = absurd (let x = (start refl).0 in cc)
stays-up false false false e start within h = absurd (cc)

pub emit-sound : (l : Ledger) (starts ends : ℕ) → starts < 2 ^ 128 → ends < 2 ^ 128 → IsSound l → MayEmit l starts ends
    → IsSound (emitted l starts ends)
emit-sound l starts ends ls le sound may =
    let next = emit-next l starts ends ls le sound in
    record {
      some = sound.some;
      few = sound.few;
      whole = sound.whole;
      room = emit-room l starts ends ls le sound may;
      gates = omega (arith, and_le_l l.gates (2 ^ 128 - 1 - ends), sound.gates);
      flying = λ c h. next.gates c ∙ stays-up (has l.gates c) (has l.flying c) (has starts c) (has ends c) (may.start c) (sound.flying c)
          (sym (next.flying c) ∙ h);
    }

-- ---- reset
-- a channel whose gate falls reserves no more, and one that isn't in flight any more has lost its gate
one-less : (head size : ℕ) (g f : Bool) → cond (g && not f) (cond false head (2 * head + size)) 0 ≤ cond g (cond f head (2 * head + size)) 0
one-less head size true true = omega arith
one-less head size true false = omega arith
one-less head size false f = omega arith

permit-is : (resets permit : Bool) → (resets && permit) ≡ true → permit_room resets permit ≡ reset_len
permit-is resets permit h = ap (λ b. cond b reset_len 0) h

-- the ledger that the code makes
abbrev pub after-reset : Ledger → Ledger
after-reset l = ledger l.sizes l.resets l.capacity (l.used + reset_len) false (bit_and l.gates (2 ^ 128 - 1 - l.flying)) 0

pub reset-next : (l : Ledger) → IsSound l → IsReset l (after-reset l)
reset-next l sound = record {
  sizes = refl;
  resets = refl;
  capacity = refl;
  used = refl;
  permit = refl;
  gates = has-without l.gates l.flying (gates-fit l sound) (flying-fits l sound);
  flying = refl;
}

-- the packet of a reset was reserved
pub reset-fits : (l : Ledger) → IsSound l → may_reset l ≡ true → l.used + reset_len ≤ l.capacity
reset-fits l sound may = let room = sound.room in let three = permit-is l.resets l.permit may in omega arith

reset-reserves : (l : Ledger) → IsSound l
    → reserved l.sizes (has (bit_and l.gates (2 ^ 128 - 1 - l.flying))) (has 0) ≤ reserved l.sizes (has l.gates) (has l.flying)
reset-reserves l sound =
    let head = head_len (length l.sizes) in
    let gates = (reset-next l sound).gates in
    total-le (reservation head (has (bit_and l.gates (2 ^ 128 - 1 - l.flying))) (has 0)) (reservation head (has l.gates) (has l.flying)) 0
    l.sizes
    (λ c size. subst (λ g. cond g (cond (has 0 c) head (2 * head + size)) 0
    ≤ cond (has l.gates c) (cond (has l.flying c) head (2 * head + size)) 0) (sym (gates c))
    (subst (λ f. cond (has l.gates c && not (has l.flying c)) (cond f head (2 * head + size)) 0
    ≤ cond (has l.gates c) (cond (has l.flying c) head (2 * head + size)) 0) (sym (has-zero c))
    (one-less head size (has l.gates c) (has l.flying c))))

pub reset-room : (l : Ledger) → IsSound l → may_reset l ≡ true → claimed (after-reset l) ≤ l.capacity
reset-room l sound may =
    let room = sound.room in
    let three = permit-is l.resets l.permit may in
    let none = none-room l.resets in
    let less = reset-reserves l sound in
    omega arith

pub reset-sound : (l : Ledger) → IsSound l → may_reset l ≡ true → IsSound (after-reset l)
reset-sound l sound may = record {
  some = sound.some;
  few = sound.few;
  whole = sound.whole;
  room = reset-room l sound may;
  gates = omega (arith, and_le_l l.gates (2 ^ 128 - 1 - l.flying), sound.gates);
  flying = λ c h. absurd (false≢true (sym (has-zero c) ∙ h));
}

-- ---- regrant
-- the ledger once the permit was decided, which comes first
abbrev pub with-permit : Ledger → Ledger
with-permit l = record l { permit = permit_after l }

raised-permit : (used taken capacity : ℕ) (resets p : Bool) → used + permit_room resets p + taken ≤ capacity
    → used + permit_room resets (p || leb (used + permit_room resets p + taken + permit_room resets true) capacity) + taken ≤ capacity
raised-permit used taken capacity resets true l = l
raised-permit used taken capacity resets false l = by (leb (used + permit_room resets false + taken + permit_room resets true) capacity) refl
  where
    by : (b : Bool) → leb (used + permit_room resets false + taken + permit_room resets true) capacity ≡ b
        → used + permit_room resets b + taken ≤ capacity
    by true h = let fits = leb-true (used + permit_room resets false + taken + permit_room resets true) capacity h in omega arith
    by false h = l

permit-sound : (l : Ledger) → IsSound l → IsSound (with-permit l)
permit-sound l sound = record {
  some = sound.some;
  few = sound.few;
  whole = sound.whole;
  room = raised-permit l.used (reserved l.sizes (has l.gates) (has l.flying)) l.capacity l.resets l.permit sound.room;
  gates = sound.gates;
  flying = sound.flying;
}

-- the permit that the code makes: one that is up has its room
same-test : (a b c d : ℕ) → (a ≤ b → c ≤ d) → (c ≤ d → a ≤ b) → leb a b ≡ leb c d
same-test a b c d there back = by (leb a b) (leb c d) refl refl
  where
    by : (x y : Bool) → leb a b ≡ x → leb c d ≡ y → x ≡ y
    by true true h k = refl
    by true false h k = sym (le-leb c d (there (leb-true a b h))) ∙ k
    by false true h k = sym h ∙ le-leb a b (back (leb-true c d k))
    by false false h k = refl

permit-same : (used taken capacity : ℕ) (resets p : Bool) → used + permit_room resets p + taken ≤ capacity
    → leb (permit_room resets true) (capacity - (used + taken))
    ≡ (p || leb (used + permit_room resets p + taken + permit_room resets true) capacity)
permit-same used taken capacity resets true l = le-leb (permit_room resets true) (capacity - (used + taken)) (omega arith)
permit-same used taken capacity resets false l =
    let none = none-room resets in
    same-test (permit_room resets true) (capacity - (used + taken)) (used + permit_room resets false + taken + permit_room resets true)
    capacity (λ h. omega arith) (λ h. omega arith)

-- the gates that the code makes
abbrev pub regranted : Ledger → ℕ
regranted l = raise (head_len (length l.sizes)) l.capacity l.sizes 0 (claimed (with-permit l)) l.gates

abbrev pub after-regrant : Ledger → Ledger
after-regrant l = record (with-permit l) { gates = regranted l }

pub regrant-next : (l : Ledger) → IsSound l → Regranted l (after-regrant l)
regrant-next l sound = record {
  sizes = refl;
  resets = refl;
  capacity = refl;
  used = refl;
  permit = refl;
  flying = refl;
  gates = are-raised l.capacity (l.used + permit_room l.resets (permit_after l)) l.sizes l.gates (regranted l) (has l.flying) sound.gates
      (raised-from (head_len (length l.sizes)) l.capacity l.sizes 0 (claimed (with-permit l)) l.gates);
}

pub regrant-room : (l : Ledger) → IsSound l → claimed (after-regrant l) ≤ l.capacity
regrant-room l sound =
    let is = raised-from (head_len (length l.sizes)) l.capacity l.sizes 0 (claimed (with-permit l)) l.gates in
    let fits = (permit-sound l sound).room in
    let within = raised-within (head_len (length l.sizes)) l.capacity l.sizes (claimed (with-permit l)) l.gates (regranted l) is fits in
    let sum = raised-reserved (head_len (length l.sizes)) (has l.gates) (has l.flying) (has (regranted l)) is.stay sound.flying 0 l.sizes in
    omega arith

pub regrant-sound : (l : Ledger) → IsSound l → IsSound (after-regrant l)
regrant-sound l sound =
    let is = raised-from (head_len (length l.sizes)) l.capacity l.sizes 0 (claimed (with-permit l)) l.gates in
    let next = regrant-next l sound in
    record {
      some = sound.some;
      few = sound.few;
      whole = sound.whole;
      room = regrant-room l sound;
      gates = below-from-bits (regranted l) (length l.sizes) next.gates.channels;
      flying = λ c h. is.stay c (sound.flying c h);
    }

-- ---- new
pub empty-sound : (sizes : List ℕ) (resets : Bool) (capacity : ℕ) → 1 ≤ length sizes → length sizes ≤ 128 → least sizes resets ≤ capacity
    → IsSound (empty sizes resets capacity)
empty-sound sizes resets capacity some few fits = record {
  some = some;
  few = few;
  whole = fits;
  room = omega (
    arith,
    fits,
    least-is sizes resets,
    reserved-need (head_len (length sizes)) (has (all_up (length sizes))) (has 0) 0 sizes,
  );
  gates = omega (arith, pow_pos (length sizes));
  flying = λ c h. absurd (false≢true (sym (has-zero c) ∙ h));
}

need-is : (head : ℕ) (channels : List Channel) → sum_by (whole head) (map content_bytes channels) ≡ length channels * (2 * head)
    + sum_by content_bytes channels
need-is head [] = omega arith
need-is head (c ∷ cs) =
    let rest : sum_by (whole head) (map content_bytes cs) ≡ length cs * (2 * head) + sum_by content_bytes cs = need-is head cs in
    rw (sum_by-cons (whole head) (content_bytes c) (map content_bytes cs), sum_by-cons content_bytes c cs) (omega arith)

pub need-small : (head : ℕ) (channels : List Channel) → head ≤ 64 → length channels ≤ 128 → sum_by content_bytes channels ≤ 2048
    → sum_by (whole head) (map content_bytes channels) < 2 ^ 16
need-small head channels h few content =
    let sum = need-is head channels in
    let product : length channels * (2 * head) ≤ 128 * (2 * 64) = grind arith in
    omega arith

-- what the code's list, head and mask come to
head-small : (n : ℕ) → n ≤ 128 → head_len n ≤ 64
head-small n l = omega arith

pub need-fits : (channels : List Channel) (sizes slice : List ℕ) → sizes ≡ map content_bytes channels → slice ≡ sizes
    → length channels ≤ 128 → sum_by content_bytes channels ≤ 2048 → need slice + reset_len < 2 ^ 32
need-fits channels sizes slice s v few content =
    let count : length slice ≡ length channels = ap length (v ∙ s) ∙ length-map channels content_bytes in
    let small = head-small (length slice) (omega arith) in
    let same : need slice ≡ sum_by (whole (head_len (length slice))) (map content_bytes channels) =
    ap (λ (xs : List ℕ). sum_by (whole (head_len (length slice))) xs) (v ∙ s) in
    let low = need-small (head_len (length slice)) channels small few content in
    omega arith

-- what the code's sums come to
taken-is : (l : Ledger) (head taken : ℕ) (slice : List ℕ) → slice ≡ l.sizes → head ≡ head_len (length slice)
    → taken ≡ total (reservation head (has l.gates) (has l.flying)) 0 slice → taken ≡ reserved l.sizes (has l.gates) (has l.flying)
taken-is l head taken slice s h t =
    let all : head ≡ head_len (length l.sizes) = h ∙ ap (λ (xs : List ℕ). head_len (length xs)) s in
    t ∙ ap (λ (xs : List ℕ). total (reservation head (has l.gates) (has l.flying)) 0 xs) s
    ∙ ap (λ k. total (reservation k (has l.gates) (has l.flying)) 0 l.sizes) all

pub regrant-is : (l : Ledger) (up : Bool) (gates head taken most more : ℕ) (slice : List ℕ) → IsSound l → slice ≡ l.sizes
    → head ≡ head_len (length slice) → taken ≡ total (reservation head (has l.gates) (has l.flying)) 0 slice
    → most ≡ permit_room l.resets true → up ≡ leb most (l.capacity - (l.used + taken)) → more ≡ permit_room l.resets up
    → gates ≡ raise head l.capacity slice 0 (l.used + taken + more) l.gates
    → ledger l.sizes l.resets l.capacity l.used up gates l.flying ≡ after-regrant l
regrant-is l up gates head taken most more slice sound s h t m u r g =
    let all : head ≡ head_len (length l.sizes) = h ∙ ap (λ (xs : List ℕ). head_len (length xs)) s in
    let sum = taken-is l head taken slice s h t in
    let permit : up ≡ permit_after l = u
    ∙ ap (λ n. leb n (l.capacity - (l.used + taken))) m
    ∙ ap (λ n. leb (permit_room l.resets true) (l.capacity - (l.used + n))) sum
    ∙ permit-same l.used (reserved l.sizes (has l.gates) (has l.flying)) l.capacity l.resets l.permit sound.room in
    let room : more ≡ permit_room l.resets (permit_after l) = r ∙ ap (permit_room l.resets) permit in
    let same : l.used + taken + more ≡ claimed (with-permit l) = omega arith in
    let mask : gates ≡ regranted l =
    g
    ∙ ap (λ n. raise head l.capacity slice 0 n l.gates) same
    ∙ ap (λ (xs : List ℕ). raise head l.capacity xs 0 (claimed (with-permit l)) l.gates) s
    ∙ ap (λ k. raise k l.capacity l.sizes 0 (claimed (with-permit l)) l.gates) all in
    ap (λ p. ledger l.sizes l.resets l.capacity l.used p gates l.flying) permit
    ∙ ap (λ m. ledger l.sizes l.resets l.capacity l.used (permit_after l) m l.flying) mask

-- ---- fits
-- one mask names no channel that another doesn't
and-not : (a b : Bool) → (a ≡ true → b ≡ true) → (a && not b) ≡ false
and-not true true h = refl
and-not true false h = absurd (let x = h refl in cc)
and-not false b h = refl

none-without : (a b : ℕ) → a < 2 ^ 128 → b < 2 ^ 128 → ((c : ℕ) → has a c ≡ true → has b c ≡ true) → bit_and a (2 ^ 128 - 1 - b) ≡ 0
none-without a b la lb h = same-masks (bit_and a (2 ^ 128 - 1 - b)) 0 (λ c. has-without a b la lb c ∙ and-not (has a c) (has b c) (h c)
    ∙ sym (has-zero c))

names-within : (a b : ℕ) → a < 2 ^ 128 → b < 2 ^ 128 → bit_and a (2 ^ 128 - 1 - b) ≡ 0 → (c : ℕ) → has a c ≡ true → has b c ≡ true
names-within a b la lb e c = and_not_false (has a c) (has b c) (sym (has-without a b la lb c) ∙ ap (λ x. has x c) e ∙ has-zero c)

-- the channels that may start, and those that may end
abbrev pub idle : Ledger → ℕ
idle l = bit_and l.gates (2 ^ 128 - 1 - l.flying)

and-parts : (g f : Bool) → (g && not f) ≡ true → (g ≡ true) × (f ≡ false)
and-parts true false h = (refl, refl)
and-parts true true h = absurd (cc)
and-parts false f h = absurd (cc)

has-idle : (l : Ledger) → IsSound l → (c : ℕ) → has (idle l) c ≡ (has l.gates c && not (has l.flying c))
has-idle l sound c = has-without l.gates l.flying (gates-fit l sound) (flying-fits l sound) c

idle-fits : (l : Ledger) → IsSound l → idle l < 2 ^ 128
idle-fits l sound = omega (arith, and_le_l l.gates (2 ^ 128 - 1 - l.flying), gates-fit l sound)

may-if : (l : Ledger) (starts ends : ℕ) → starts < 2 ^ 128 → ends < 2 ^ 128 → IsSound l
    → bit_and starts (2 ^ 128 - 1 - idle l) ≡ 0 → bit_and ends (2 ^ 128 - 1 - bit_or l.flying starts) ≡ 0 → MayEmit l starts ends
may-if l starts ends ls le sound a b = record {
  start = λ c h. and-parts (has l.gates c) (has l.flying c) (sym (has-idle l sound c)
      ∙ names-within starts (idle l) ls (idle-fits l sound) a c h);
  complete = λ c h. sym (has-or l.flying starts c) ∙ names-within ends (bit_or l.flying starts) le
      (or_lt 128 l.flying starts (flying-fits l sound) ls) b c h;
}

starts-only : (l : Ledger) (starts ends : ℕ) → starts < 2 ^ 128 → IsSound l → MayEmit l starts ends → bit_and starts (2 ^ 128 - 1 - idle l)
    ≡ 0
starts-only l starts ends ls sound may = none-without starts (idle l) ls (idle-fits l sound)
    (λ c h. has-idle l sound c ∙ and_from (has l.gates c) (not (has l.flying c)) (may.start c h).0 (ap not (may.start c h).1))

ends-only : (l : Ledger) (starts ends : ℕ) → starts < 2 ^ 128 → ends < 2 ^ 128 → IsSound l → MayEmit l starts ends
    → bit_and ends (2 ^ 128 - 1 - bit_or l.flying starts) ≡ 0
ends-only l starts ends ls le sound may = none-without ends (bit_or l.flying starts) le (or_lt 128 l.flying starts (flying-fits l sound) ls)
    (λ c h. has-or l.flying starts c ∙ may.complete c h)

pub fits-then : (l : Ledger) (starts ends : ℕ) → starts < 2 ^ 128 → ends < 2 ^ 128 → IsSound l → bit_and starts (2 ^ 128 - 1 - idle l) ≡ 0
    → IsTrue (bit_and ends (2 ^ 128 - 1 - bit_or l.flying starts) == 0) ↔ MayEmit l starts ends
fits-then l starts ends ls le sound a =
    (λ t. may-if l starts ends ls le sound a (eqb-true _ _ t), λ may. eq-eqb _ _ (ends-only l starts ends ls le sound may))

pub fits-else : (l : Ledger) (starts ends : ℕ) → starts < 2 ^ 128 → ends < 2 ^ 128 → IsSound l
    → (bit_and starts (2 ^ 128 - 1 - idle l) ≡ 0 → ⊥)
    → IsTrue (bit_and starts (2 ^ 128 - 1 - idle l) == 0) ↔ MayEmit l starts ends
fits-else l starts ends ls le sound a =
    (λ t. absurd (a (eqb-true _ _ t)), λ may. absurd (a (starts-only l starts ends ls sound may)))
