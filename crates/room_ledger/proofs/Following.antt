-- The ledger follows *Gates* from row to row.
use Rattle.std.proofs.Common.{◌≡◌, ℕ, zero, suc, ◌+◌, ◌≤◌, ◌&&◌, ◌||◌, ◌==◌, Bool, true, false, not, cond, List, [], ◌∷◌, ◌++◌, map, Option}
use Rattle.std.proofs.Common.{Some, length, slice_get, sum_by, bit_or, leb, refl, ap, sym, subst, ◌∙◌, arith, length-append, add_assoc}
use Rattle.std.proofs.lemmas.List.{length-map}
use Rattle.std.specs.Prelude.{IsSomeAnd}
use Rattle.std.specs.List.{enumerate_from}
use Rattle.std.proofs.lemmas.List.Sums.{sum_by-cons}
use Rattle.std.proofs.Math.Bool.{and-false, and-true}
use Rattle.trace_model.specs.vidi_bits.Number.{has}
use Rattle.trace_model.specs.declared.channel.Channel.{Channel}
use Rattle.trace_model.specs.declared.row.Row.{Row}
use Rattle.trace_model.specs.Channel.{content_bytes}
use Rattle.trace_model.specs.Length.{head_len, packet_len}
use Rattle.trace_model.specs.Row.{completes, flies_after, is_in_flight, row_before, sink_valid}
use Rattle.trace_model.proofs.CountingLemmas.{slice_get-last, slice_get-append_left}
use Rattle.trace_model.specs.Length.{sizes_under}
use Rattle.room_ledger.specs.Reservation.{AreRaised, event_len, reserved, reset_len, permit_room}
use Rattle.room_ledger.specs.Gates.{Plan, left, is_fresh, fresh_at, put_len, used_at, keeps, kept_room, permit_at, charged_at, AreGates}
use Rattle.room_ledger.specs.Ledger.{Ledger, MayEmit, Emitted, IsReset, Regranted}
use Rattle.room_ledger.specs.Laws.{StandsAfter, MayFollow, KeepsGates, before_next, after_drain}
use Rattle.room_ledger.proofs.GateLaws.{some-row}
use Rattle.room_ledger.proofs.Masks.{has-or, has-zero}
use Rattle.room_ledger.proofs.Reserving.{none-room, reserved-alike, raised-alike}

-- ---- the bytes used in a row depend on the rows before it
pub used-front : (sizes : List ℕ) (plan : Plan) (rows more : List Row) (t : ℕ) (fresh : Bool) → t ≤ length rows
    → used_at sizes plan (rows ++ more) t fresh ≡ used_at sizes plan rows t fresh
used-front sizes plan rows more zero fresh l = refl
used-front sizes plan rows more (suc t) fresh l =
    let here : slice_get (rows ++ more) t ≡ slice_get rows t = slice_get-append_left rows more t (omega arith) in
    let before = used-front sizes plan rows more t (fresh_at plan rows t) (omega arith) in
    ap (λ (o : Option Row). left (plan.allowance t) (used_at sizes plan (rows ++ more) t (plan.resets && is_fresh o) + put_len sizes o fresh)) here
    ∙ ap (λ used. left (plan.allowance t) (used + put_len sizes (slice_get rows t) fresh)) before

used-push : (sizes : List ℕ) (plan : Plan) (rows : List Row) (row : Row) (next : Bool)
    → used_at sizes plan (rows ++ row ∷ []) (suc (length rows)) next ≡ left (plan.allowance (length rows))
    (used_at sizes plan rows (length rows) (plan.resets && row.fresh) + put_len sizes (Some row) next)
used-push sizes plan rows row next =
    ap (λ (o : Option Row). left (plan.allowance (length rows)) (used_at sizes plan (rows ++ row ∷ []) (length rows) (plan.resets && is_fresh o)
    + put_len sizes o next)) (slice_get-last rows row)
    ∙ ap (λ used. left (plan.allowance (length rows)) (used + put_len sizes (Some row) next))
    (used-front sizes plan rows (row ∷ []) (length rows) (plan.resets && row.fresh) (omega arith))

-- ---- the permit too
pub permit-front : (sizes : List ℕ) (plan : Plan) (rows more : List Row) (t : ℕ) (fresh : Bool) → t ≤ length rows
    → permit_at sizes plan (rows ++ more) t fresh ≡ permit_at sizes plan rows t fresh
permit-front sizes plan rows more zero fresh l = refl
permit-front sizes plan rows more (suc t) fresh l =
    let here : slice_get (rows ++ more) t ≡ slice_get rows t = slice_get-append_left rows more t (omega arith) in
    let before = permit-front sizes plan rows more t (fresh_at plan rows t) (omega arith) in
    let used = used-front sizes plan rows more (suc t) fresh l in
    let room = permit_room plan.resets true in
    ap (λ (o : Option Row). (permit_at sizes plan (rows ++ more) t (plan.resets && is_fresh o) && not fresh)
    || leb (used_at sizes plan (rows ++ more) (suc t) fresh + kept_room sizes o fresh + room) plan.capacity) here
    ∙ ap (λ n. (permit_at sizes plan (rows ++ more) t (fresh_at plan rows t) && not fresh)
    || leb (n + kept_room sizes (slice_get rows t) fresh + room) plan.capacity) used
    ∙ ap (λ p. (p && not fresh) || leb (used_at sizes plan rows (suc t) fresh + kept_room sizes (slice_get rows t) fresh + room)
    plan.capacity) before

permit-push : (sizes : List ℕ) (plan : Plan) (rows : List Row) (row : Row) (next : Bool)
    → permit_at sizes plan (rows ++ row ∷ []) (suc (length rows)) next
    ≡ ((permit_at sizes plan rows (length rows) (plan.resets && row.fresh) && not next)
    || leb (used_at sizes plan (rows ++ row ∷ []) (suc (length rows)) next + reserved sizes (keeps row next) (is_in_flight row)
    + permit_room plan.resets true) plan.capacity)
permit-push sizes plan rows row next =
    let all = rows ++ row ∷ [] in
    let used = used_at sizes plan all (suc (length rows)) next in
    let room = permit_room plan.resets true in
    ap (λ (o : Option Row). (permit_at sizes plan all (length rows) (plan.resets && is_fresh o) && not next)
    || leb (used + kept_room sizes o next + room) plan.capacity) (slice_get-last rows row)
    ∙ ap (λ p. (p && not next) || leb (used + reserved sizes (keeps row next) (is_in_flight row) + room) plan.capacity)
    (permit-front sizes plan rows (row ∷ []) (length rows) (plan.resets && row.fresh) (omega arith))

charged-front : (sizes : List ℕ) (plan : Plan) (rows more : List Row) (t : ℕ) (fresh : Bool) → t ≤ length rows
    → charged_at sizes plan (rows ++ more) t fresh ≡ charged_at sizes plan rows t fresh
charged-front sizes plan rows more t fresh l =
    ap (λ n. n + permit_room plan.resets (permit_at sizes plan (rows ++ more) t fresh)) (used-front sizes plan rows more t fresh l)
    ∙ ap (λ p. used_at sizes plan rows t fresh + permit_room plan.resets p) (permit-front sizes plan rows more t fresh l)

-- ---- and the gates
pub gates-front : (sizes : List ℕ) (plan : Plan) (rows more : List Row) (t : ℕ) (fresh : Bool) (gates : ℕ) → t ≤ length rows
    → AreGates sizes plan rows t fresh gates → AreGates sizes plan (rows ++ more) t fresh gates
gates-front sizes plan rows more zero fresh gates l is = is
gates-front sizes plan rows more (suc t) fresh gates l is =
    let charged = sym (charged-front sizes plan rows more (suc t) fresh l) in
    let here : slice_get rows t ≡ slice_get (rows ++ more) t = sym (slice_get-append_left rows more t (omega arith)) in
    let raised = λ (n : ℕ) (row : Row). AreRaised sizes plan.capacity n (keeps row fresh) (is_in_flight row) (has gates) in
    subst (λ (o : Option Row). IsSomeAnd o (raised (charged_at sizes plan (rows ++ more) (suc t) fresh))) here
    (subst (λ (n : ℕ). IsSomeAnd (slice_get rows t) (raised n)) charged is)

-- ---- one cycle of the ledger
along : (sizes others : List ℕ) (capacity limit used bytes : ℕ) (kept kept2 flies up : ℕ → Bool) → sizes ≡ others → capacity ≡ limit
    → used ≡ bytes → kept ≡ kept2 → AreRaised sizes capacity used kept flies up → AreRaised others limit bytes kept2 flies up
along sizes others capacity limit used bytes kept kept2 flies up a b c d is =
    subst (λ (k : ℕ → Bool). AreRaised others limit bytes k flies up) d
    (subst (λ (n : ℕ). AreRaised others limit n kept flies up) c
    (subst (λ (n : ℕ). AreRaised others n used kept flies up) b
    (subst (λ (s : List ℕ). AreRaised s capacity used kept flies up) a is)))

-- what is in flight, by the starts and ends, is what *Row* calls in flight, where its valid stays
flight : (f v e : Bool) → (f ≡ true → v ≡ true) → ((f || (v && not f)) && not e) ≡ (v && not e)
flight true true e h = refl
flight true false e h = absurd (let x = h refl in cc)
flight false true e h = refl
flight false false e h = refl

both-true : (v g f : Bool) → ((v && g) && not f) ≡ true → (g ≡ true) × (f ≡ false)
both-true true true false h = (refl, refl)
both-true true true true h = absurd (cc)
both-true true false f h = absurd (cc)
both-true false g f h = absurd (cc)

in-flight-or-starts : (v r f : Bool) → (v && r) ≡ true → (f || (v && not f)) ≡ true
in-flight-or-starts true true true h = refl
in-flight-or-starts true true false h = refl
in-flight-or-starts true false f h = absurd (cc)
in-flight-or-starts false r f h = absurd (cc)

-- the books before bytes drain behind a row, where the next one is fresh or isn't
record IsBehind (sizes : List ℕ) (plan : Plan) (rows : List Row) (row : Row) (next : Bool) (mid : Ledger) : Type 0 where
  pub channels : mid.sizes ≡ sizes
  pub resets : mid.resets ≡ plan.resets
  pub capacity : mid.capacity ≡ plan.capacity
  pub used : mid.used ≡ used_at sizes plan rows (length rows) (plan.resets && row.fresh) + put_len sizes (Some row) next
  pub permit : mid.permit ≡ (permit_at sizes plan rows (length rows) (plan.resets && row.fresh) && not next)
  pub gates : (c : ℕ) → has mid.gates c ≡ keeps row next c
  pub flying : (c : ℕ) → has mid.flying c ≡ (is_in_flight row c && not next)

-- a kept gate is that of a channel which the books have in flight where it is
flight-kept : (g f e next : Bool) → (g && not ((next && f) || e)) ≡ true → (f && not next) ≡ f
flight-kept g true e false h = refl
flight-kept g false e next h = refl
flight-kept true true e true h = absurd (cc)
flight-kept false true e true h = absurd (cc)

-- what a permit that isn't there reserves
same-permit : (p resets : Bool) (used taken capacity : ℕ)
    → (p || leb (used + permit_room resets p + taken + permit_room resets true) capacity)
    ≡ (p || leb (used + taken + permit_room resets true) capacity)
same-permit true resets used taken capacity = refl
same-permit false resets used taken capacity =
    let none = none-room resets in
    let same : used + permit_room resets false + taken + permit_room resets true ≡ used + taken + permit_room resets true = omega arith in
    ap (λ n. leb n capacity) same

module _ (sizes : List ℕ) (plan : Plan) (rows : List Row) (row : Row) (next : Bool) (mid new : Ledger)
    (turns : next ≡ true → plan.resets ≡ true) (behind : IsBehind sizes plan rows row next mid)
    (again : Regranted (after_drain plan rows mid) new) where
  longer : length (rows ++ row ∷ []) ≡ suc (length rows)
  longer = omega (arith, length-append rows (row ∷ []))

  kept-gates : has mid.gates ≡ keeps row next
  kept-gates = λ i c. behind.gates c i

  agrees : (c : ℕ) → keeps row next c ≡ true → has mid.flying c ≡ is_in_flight row c
  agrees c h = behind.flying c ∙ flight-kept (has row.gates c) (is_in_flight row c) (completes row c) next h

  used-after : left (plan.allowance (length rows)) mid.used ≡ used_at sizes plan (rows ++ row ∷ []) (suc (length rows)) next
  used-after = ap (left (plan.allowance (length rows))) behind.used ∙ sym (used-push sizes plan rows row next)

  taken : reserved mid.sizes (has mid.gates) (has mid.flying) ≡ reserved sizes (keeps row next) (is_in_flight row)
  taken = ap (λ (s : List ℕ). reserved s (has mid.gates) (has mid.flying)) behind.channels
      ∙ ap (λ (k : ℕ → Bool). reserved sizes k (has mid.flying)) kept-gates
      ∙ reserved-alike sizes (keeps row next) (has mid.flying) (is_in_flight row) agrees

  permit-next : new.permit ≡ permit_at sizes plan (rows ++ row ∷ []) (suc (length rows)) next
  permit-next =
      let used = left (plan.allowance (length rows)) mid.used in
      let reserves = reserved mid.sizes (has mid.gates) (has mid.flying) in
      again.permit
      ∙ same-permit mid.permit mid.resets used reserves mid.capacity
      ∙ ap (λ p. p || leb (used + reserves + permit_room mid.resets true) mid.capacity) behind.permit
      ∙ ap (λ n. (permit_at sizes plan rows (length rows) (plan.resets && row.fresh) && not next)
      || leb (n + reserves + permit_room mid.resets true) mid.capacity) used-after
      ∙ ap (λ n. (permit_at sizes plan rows (length rows) (plan.resets && row.fresh) && not next)
      || leb (used_at sizes plan (rows ++ row ∷ []) (suc (length rows)) next + n + permit_room mid.resets true) mid.capacity) taken
      ∙ ap (λ r. (permit_at sizes plan rows (length rows) (plan.resets && row.fresh) && not next)
      || leb (used_at sizes plan (rows ++ row ∷ []) (suc (length rows)) next + reserved sizes (keeps row next) (is_in_flight row)
      + permit_room r true) mid.capacity) behind.resets
      ∙ ap (λ n. (permit_at sizes plan rows (length rows) (plan.resets && row.fresh) && not next)
      || leb (used_at sizes plan (rows ++ row ∷ []) (suc (length rows)) next + reserved sizes (keeps row next) (is_in_flight row)
      + permit_room plan.resets true) n) behind.capacity
      ∙ sym (permit-push sizes plan rows row next)

  charged : left (plan.allowance (length rows)) mid.used + permit_room new.resets new.permit
      ≡ charged_at sizes plan (rows ++ row ∷ []) (suc (length rows)) next
  charged =
      ap (λ n. n + permit_room new.resets new.permit) used-after
      ∙ ap (λ r. used_at sizes plan (rows ++ row ∷ []) (suc (length rows)) next + permit_room r new.permit) (again.resets ∙ behind.resets)
      ∙ ap (λ p. used_at sizes plan (rows ++ row ∷ []) (suc (length rows)) next + permit_room plan.resets p) permit-next

  gates-next : AreRaised sizes plan.capacity (charged_at sizes plan (rows ++ row ∷ []) (suc (length rows)) next) (keeps row next)
      (is_in_flight row) (has new.gates)
  gates-next =
      raised-alike sizes plan.capacity (charged_at sizes plan (rows ++ row ∷ []) (suc (length rows)) next) (keeps row next)
      (has mid.flying) (is_in_flight row) (has new.gates) agrees
      (along mid.sizes sizes mid.capacity plan.capacity
      (left (plan.allowance (length rows)) mid.used + permit_room new.resets new.permit)
      (charged_at sizes plan (rows ++ row ∷ []) (suc (length rows)) next) (has mid.gates) (keeps row next) (has mid.flying) (has new.gates)
      behind.channels behind.capacity charged kept-gates again.gates)

  stands-next : StandsAfter sizes plan (rows ++ row ∷ []) next new
  stands-next =
      let all = rows ++ row ∷ [] in
      record {
        channels = again.sizes ∙ behind.channels;
        resets = again.resets ∙ behind.resets;
        capacity = again.capacity ∙ behind.capacity;
        turns = turns;
        used = again.used ∙ used-after ∙ ap (λ t. used_at sizes plan all t next) (sym longer);
        permit = permit-next ∙ ap (λ t. permit_at sizes plan all t next) (sym longer);
        gates = subst (λ (t : ℕ). AreGates sizes plan all t next new.gates) (sym longer)
            (subst (λ (o : Option Row). IsSomeAnd o (λ r. AreRaised sizes plan.capacity (charged_at sizes plan all (suc (length rows)) next)
            (keeps r next) (is_in_flight r) (has new.gates))) (sym (slice_get-last rows row)) gates-next);
        flying = λ c. ap (λ f. has f c) again.flying ∙ behind.flying c ∙ flies-next next c;
      }
    where
      flies-next : (next : Bool) (c : ℕ) → (is_in_flight row c && not next) ≡ flies_after (before_next (rows ++ row ∷ []) next) c
      flies-next true c = and-false (is_in_flight row c)
      flies-next false c = and-true (is_in_flight row c) ∙ ap (λ (o : Option Row). flies_after o c) (sym (slice_get-last rows row))
          ∙ ap (λ t. flies_after (row_before (rows ++ row ∷ []) t) c) (sym longer)

module _ (sizes : List ℕ) (plan : Plan) (rows : List Row) (fresh : Bool) (row : Row) (l : Ledger)
    (stands : StandsAfter sizes plan rows fresh l) (follows : MayFollow l fresh (before_next rows fresh) row) where
  abbrev before : Option Row
  before = before_next rows fresh

  mark : fresh ≡ (plan.resets && row.fresh)
  mark = sym follows.mark ∙ ap (λ r. r && row.fresh) stands.resets

  module _ (emitted : Ledger) (is : Emitted l row.starts row.ends emitted) where
    gate-kept : (c : ℕ) → has emitted.gates c ≡ (has row.gates c && not (completes row c))
    gate-kept c =
        is.gates c
        ∙ ap (λ g. has g c && not (has row.ends c)) (sym follows.gates)
        ∙ ap (λ e. has row.gates c && not e) (follows.marked.ends c)

    flies : (c : ℕ) → has emitted.flying c ≡ is_in_flight row c
    flies c =
        is.flying c
        ∙ ap (λ f. (f || has row.starts c) && not (has row.ends c)) (stands.flying c)
        ∙ ap (λ s. (flies_after before c || s) && not (has row.ends c)) (follows.marked.starts c)
        ∙ ap (λ e. (flies_after before c || (sink_valid row c && not (flies_after before c))) && not e) (follows.marked.ends c)
        ∙ flight (flies_after before c) (sink_valid row c) (completes row c) (follows.stays c)

    used-emitted : emitted.used ≡ used_at sizes plan rows (length rows) (plan.resets && row.fresh) + event_len sizes row.starts row.ends
    used-emitted =
        is.used ∙ ap (λ n. n + event_len l.sizes row.starts row.ends) stands.used
        ∙ ap (λ s. used_at sizes plan rows (length rows) fresh + event_len s row.starts row.ends) stands.channels
        ∙ ap (λ f. used_at sizes plan rows (length rows) f + event_len sizes row.starts row.ends) mark

    permit-emitted : emitted.permit ≡ permit_at sizes plan rows (length rows) (plan.resets && row.fresh)
    permit-emitted = is.permit ∙ stands.permit ∙ ap (permit_at sizes plan rows (length rows)) mark

    behind-emitted : IsBehind sizes plan rows row false emitted
    behind-emitted = record {
      channels = is.sizes ∙ stands.channels;
      resets = is.resets ∙ stands.resets;
      capacity = is.capacity ∙ stands.capacity;
      used = used-emitted;
      permit = permit-emitted ∙ sym (and-true (permit_at sizes plan rows (length rows) (plan.resets && row.fresh)));
      gates = gate-kept;
      flying = λ c. flies c ∙ sym (and-true (is_in_flight row c));
    }

    -- a gate that is kept over a reset
    over-reset : (g f e : Bool) → ((g && not e) && not f) ≡ (g && not (f || e))
    over-reset true true true = refl
    over-reset true true false = refl
    over-reset true false true = refl
    over-reset true false false = refl
    over-reset false f e = refl

    behind-reset : (reset : Ledger) → IsReset emitted reset → IsBehind sizes plan rows row true reset
    behind-reset reset done = record {
      channels = done.sizes ∙ is.sizes ∙ stands.channels;
      resets = done.resets ∙ is.resets ∙ stands.resets;
      capacity = done.capacity ∙ is.capacity ∙ stands.capacity;
      used = done.used ∙ ap (λ n. n + reset_len) used-emitted
          ∙ add_assoc (used_at sizes plan rows (length rows) (plan.resets && row.fresh)) (event_len sizes row.starts row.ends) reset_len;
      permit = done.permit ∙ sym (and-false (permit_at sizes plan rows (length rows) (plan.resets && row.fresh)));
      gates = λ c.
          done.gates c
          ∙ ap (λ g. g && not (has emitted.flying c)) (gate-kept c)
          ∙ ap (λ f. (has row.gates c && not (completes row c)) && not f) (flies c)
          ∙ over-reset (has row.gates c) (is_in_flight row c) (completes row c);
      flying = λ c. ap (λ f. has f c) done.flying ∙ has-zero c ∙ sym (and-false (is_in_flight row c));
    }

  may-emit : MayEmit l row.starts row.ends
  may-emit = record {
    start = λ c h.
        let both : (sink_valid row c && not (flies_after before c)) ≡ true = sym (follows.marked.starts c) ∙ h in
        let parts = both-true (has row.valids c) (has row.gates c) (flies_after before c) both in
        (ap (λ g. has g c) (sym follows.gates) ∙ parts.0, stands.flying c ∙ parts.1);
    complete = λ c h.
        let done : completes row c ≡ true = sym (follows.marked.ends c) ∙ h in
        ap (λ f. f || has row.starts c) (stands.flying c)
        ∙ ap (λ s. flies_after before c || s) (follows.marked.starts c)
        ∙ in-flight-or-starts (sink_valid row c) (has row.readies c) (flies_after before c) done;
  }

-- ---- a row for each lawful call
in-flight-kept : (v g f : Bool) → ((v && g) && not f) ≡ true → (g && not f) ≡ true
in-flight-kept true g f h = h
in-flight-kept false g f h = absurd (cc)

-- what is in flight into a row has its gate up
flies-up : (sizes : List ℕ) (plan : Plan) (rows : List Row) (t : ℕ) (gates : ℕ) → AreGates sizes plan rows t false gates → (c : ℕ)
    → flies_after (row_before rows t) c ≡ true → has gates c ≡ true
flies-up sizes plan rows zero gates is c h = absurd (cc)
flies-up sizes plan rows (suc t) gates is c h =
    let before = some-row (λ row. AreRaised sizes plan.capacity (charged_at sizes plan rows (suc t) false) (keeps row false)
    (is_in_flight row) (has gates)) (slice_get rows t) is in
    let flies : is_in_flight before.0 c ≡ true = ap (λ (o : Option Row). flies_after o c) (sym before.1) ∙ h in
    before.2.stay c (in-flight-kept (has before.0.valids c) (has before.0.gates c) (completes before.0 c) flies)

into-up : (sizes : List ℕ) (plan : Plan) (rows : List Row) (fresh : Bool) (gates : ℕ) → AreGates sizes plan rows (length rows) fresh gates
    → (c : ℕ) → flies_after (before_next rows fresh) c ≡ true → has gates c ≡ true
into-up sizes plan rows true gates is c h = absurd (cc)
into-up sizes plan rows false gates is c h = flies-up sizes plan rows (length rows) gates is c h

shown-start : (f s g : Bool) → (s ≡ true → (g ≡ true) × (f ≡ false)) → s ≡ (((f || s) && g) && not f)
shown-start true true g start = absurd (let x = (start refl).1 in cc)
shown-start true false true start = refl
shown-start true false false start = refl
shown-start false true true start = refl
shown-start false true false start = absurd (let x = (start refl).0 in cc)
shown-start false false g start = refl

shown-end : (f s g e : Bool) → (e ≡ true → (f || s) ≡ true) → (s ≡ true → (g ≡ true) × (f ≡ false)) → (f ≡ true → g ≡ true) → e
    ≡ (((f || s) && g) && e)
shown-end f s g false complete start up = sym (and-false ((f || s) && g))
shown-end true s true true complete start up = refl
shown-end true s false true complete start up = absurd (let x = up refl in cc)
shown-end false true true true complete start up = refl
shown-end false true false true complete start up = absurd (let x = (start refl).0 in cc)
shown-end false false g true complete start up = absurd (let x = complete refl in cc)

shown-stays : (f s g : Bool) → (f ≡ true → g ≡ true) → f ≡ true → ((f || s) && g) ≡ true
shown-stays true s g up h = up refl
shown-stays false s g up h = absurd (cc)

left-true : (a b : Bool) → (a && b) ≡ true → a ≡ true
left-true true b h = refl
left-true false b h = absurd (cc)

shown : (sizes : List ℕ) (plan : Plan) (rows : List Row) (fresh : Bool) (l : Ledger) (starts ends : ℕ)
    → StandsAfter sizes plan rows fresh l → MayEmit l starts ends
    → (row : Row) × (row.starts ≡ starts) × (row.ends ≡ ends) × MayFollow l fresh (before_next rows fresh) row
shown sizes plan rows fresh l starts ends stands may =
    let row : Row = record {
      fresh = fresh;
      gates = l.gates;
      valids = bit_or l.flying starts;
      readies = ends;
      contents = [];
      starts = starts;
      ends = ends;
    } in
    let up : (c : ℕ) → has l.flying c ≡ true → has l.gates c ≡ true = λ c h. into-up sizes plan rows fresh l.gates stands.gates c
    (sym (stands.flying c) ∙ h) in
    let valid : (c : ℕ) → sink_valid row c ≡ ((has l.flying c || has starts c) && has l.gates c) = λ c. ap (λ v. v && has l.gates c)
    (has-or l.flying starts c) in (
      row,
      refl,
      refl,
      record {
        mark = mark fresh (λ t. stands.resets ∙ stands.turns t);
        gates = refl;
        marked = record {
          starts = λ c.
              shown-start (has l.flying c) (has starts c) (has l.gates c) (may.start c)
              ∙ ap (λ v. v && not (has l.flying c)) (sym (valid c))
              ∙ ap (λ f. sink_valid row c && not f) (stands.flying c);
          ends = λ c.
              shown-end (has l.flying c) (has starts c) (has l.gates c) (has ends c) (may.complete c) (may.start c) (up c)
              ∙ ap (λ v. v && has ends c) (sym (valid c));
        };
        stays = λ c h. valid c ∙ shown-stays (has l.flying c) (has starts c) (has l.gates c) (up c) (stands.flying c ∙ h);
      },
    )
  where
    mark : (fresh : Bool) → (fresh ≡ true → l.resets ≡ true) → (l.resets && fresh) ≡ fresh
    mark true h = ap (λ r. r && true) (h refl)
    mark false h = and-false l.resets

pub keeps-gates : (sizes : List ℕ) (plan : Plan) → KeepsGates sizes plan
keeps-gates sizes plan = record {
  first = record {
    channels = refl;
    resets = refl;
    capacity = refl;
    turns = λ e. absurd (cc);
    used = refl;
    permit = refl;
    gates = refl;
    flying = has-zero;
  };
  lawful = λ rows fresh row l stands follows. may-emit sizes plan rows fresh row l stands follows;
  shown = λ rows fresh l starts ends stands may. shown sizes plan rows fresh l starts ends stands may;
  permit = λ rows fresh l emitted starts ends stands is.
      ap (λ r. r && emitted.permit) (is.resets ∙ stands.resets) ∙ ap (λ p. plan.resets && p) (is.permit ∙ stands.permit);
  next = λ rows fresh row l emitted new stands follows is again.
      stands-next sizes plan rows row false emitted new (λ e. absurd (cc)) (behind-emitted sizes plan rows fresh row l stands follows emitted is) again;
  reset = λ rows fresh row l emitted reset new stands follows is may done again.
      stands-next sizes plan rows row true reset new
      (λ e. sym (is.resets ∙ stands.resets) ∙ left-true emitted.resets emitted.permit may) (behind-reset sizes plan rows fresh row l stands follows emitted is reset done) again;
}

-- ---- the length of a packet
by-channels : (mask n : ℕ) (channels : List Channel)
    → sum_by (λ (c : ℕ × Channel). cond (has mask c.0) (content_bytes c.1) 0) (enumerate_from n channels)
    ≡ sum_by (λ (c : ℕ × ℕ). cond (has mask c.0) c.1 0) (enumerate_from n (map content_bytes channels))
by-channels mask n [] = refl
by-channels mask n (c ∷ cs) =
    let f : ℕ × Channel → ℕ = λ d. cond (has mask d.0) (content_bytes d.1) 0 in
    let g : ℕ × ℕ → ℕ = λ d. cond (has mask d.0) d.1 0 in
    sum_by-cons f (n, c) (enumerate_from (n + 1) cs)
    ∙ ap (λ x. cond (has mask n) (content_bytes c) 0 + x) (by-channels mask (n + 1) cs)
    ∙ sym (sum_by-cons g (n, content_bytes c) (enumerate_from (n + 1) (map content_bytes cs)))

pub same-len : (channels : List Channel) (starts ends : ℕ) → packet_len channels starts ends
    ≡ event_len (map content_bytes channels) starts ends
same-len channels starts ends =
    ap (λ x. cond (starts == 0 && ends == 0) 0 (head_len (length channels) + x)) (by-channels starts 0 channels)
    ∙ ap (λ n. cond (starts == 0 && ends == 0) 0 (head_len n + sizes_under starts (map content_bytes channels)))
    (sym (length-map channels content_bytes))
