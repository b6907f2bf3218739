-- Gaps count for nothing in the order of events: in each epoch of a trace of stretches, what holds of a stretch's packets holds of the trace.
use Rattle.std.proofs.Common.{◌≡◌, ◌<◌, ℕ, zero, suc, ◌+◌, ◌-◌, Bool, true, false, cond, List, [], ◌∷◌, ◌++◌, Some, All, length, map, slice_get, take}
use Rattle.std.proofs.Common.{append_assoc, refl, sym, ap, subst, ◌∙◌, arith}
use Rattle.std.specs.Prelude.{option_map}
use Rattle.std.specs.List.{filter}
use Rattle.std.proofs.lemmas.Bool.{false≢true}
use Rattle.std.proofs.lemmas.List.{append-nil, take-map}
use Rattle.std.proofs.lemmas.List.Elements.{All-head, All-tail}
use Rattle.std.proofs.lemmas.Option.{same_Some, slice_get-map}
use Rattle.vidi_commands.specs.trace_model.declared.channel.Channel.{Channel}
use Rattle.vidi_commands.specs.trace_model.declared.event.Kind.{Kind}
use Rattle.vidi_commands.specs.trace_model.declared.event.Kind.TheVariants.{Start, End, Reset}
use Rattle.vidi_commands.specs.trace_model.declared.packet.Packet.{Packet}
use Rattle.vidi_commands.specs.trace_model.declared.row.Row.{Row}
use Rattle.vidi_commands.specs.trace_model.Counting.{IsNth}
use Rattle.vidi_commands.specs.trace_model.Epoch.{epoch, resets}
use Rattle.vidi_commands.specs.trace_model.Packet.{content_of, count, does}
use Rattle.vidi_commands.specs.trace_model.Recording.{after_gap, end_after, end_of, has_event, own_before, packet_of, packets_at, packets_from}
use Rattle.vidi_commands.specs.trace_model.Recording.{packets_of, recorded, reset_packet}
use Rattle.vidi_commands.proofs.trace_model_lemmas.CountingLemmas.{count-cons}
use Rattle.vidi_commands.specs.trace_code.NoReset.{HasNoReset}
use Rattle.vidi_commands.proofs.trace_code_lemmas.NoReset.{none-resets, rows-no_reset}
use Rattle.vidi_commands.specs.run_model.Laws.{AreInOrder}
use Rattle.vidi_commands.specs.run_model.Stretches.{rows_of}
use Rattle.vidi_commands.proofs.replay_run_lemmas.Epochs.{count-append}
use Rattle.vidi_commands.proofs.replay_run_lemmas.Stretched.{others-plain, AreMarked, IsMarked}

abbrev pub bare : Packet → Packet
bare p = after_gap 0 p

-- ---- the packets of rows of which none is fresh
gapless : (channels : List Channel) (t before : ℕ) (rows : List Row)
    → ((n : ℕ) (row : Row) → slice_get rows n ≡ Some row → row.fresh ≡ false)
    → map bare (packets_from channels t before rows) ≡ packets_of channels rows
gapless channels t before [] plain = refl
gapless channels t before (row ∷ rows) plain = one row.fresh (has_event row) (plain 0 row refl)
    (gapless channels (t + 1) (end_after t before row) rows (λ n r at. plain (suc n) r at))
  where
    later : List Packet
    later = packets_from channels (t + 1) (end_after t before row) rows

    one : (fresh event : Bool) → fresh ≡ false → map bare later ≡ packets_of channels rows
        → map bare ((cond fresh (reset_packet (t - before) ∷ []) []
        ++ cond event (after_gap (t - own_before t before row) (packet_of channels row) ∷ []) []) ++ later)
        ≡ map (packet_of channels) (cond event (row ∷ filter has_event rows) (filter has_event rows))
    one true event h same = absurd (false≢true (sym h))
    one false true h same = ap (λ ps. packet_of channels row ∷ ps) same
    one false false h same = same

-- ---- events and contents without gaps
does-bare : (kind : Kind) (c : ℕ) (p : Packet) → does kind c (bare p) ≡ does kind c p
does-bare Start c p = refl
does-bare End c p = refl
does-bare Reset c p = refl

count-bare : (kind : Kind) (c : ℕ) (ps : List Packet) → count kind c (map bare ps) ≡ count kind c ps
count-bare kind c [] = refl
count-bare kind c (p ∷ ps) =
    count-cons (does kind c) (bare p) (map bare ps) ∙ ap (λ b. cond b 1 0 + count kind c (map bare ps)) (does-bare kind c p)
    ∙ ap (λ n. cond (does kind c p) 1 0 + n) (count-bare kind c ps) ∙ sym (count-cons (does kind c) p ps)

count-front : (kind : Kind) (c n : ℕ) (ps : List Packet) → count kind c (take n (map bare ps)) ≡ count kind c (take n ps)
count-front kind c n ps = ap (count kind c) (take-map bare n ps) ∙ count-bare kind c (take n ps)

nth-bare : (kind : Kind) (c j n : ℕ) (ps : List Packet) (p : Packet) → IsNth (does kind c) ps j n p
    → IsNth (does kind c) (map bare ps) j n (bare p)
nth-bare kind c j n ps p is = record {
  at = slice_get-map bare ps n ∙ ap (option_map bare) is.at;
  passes = does-bare kind c p ∙ is.passes;
  before = count-front kind c n ps ∙ is.before;
}

pub recorded-bare : (channels : List Channel) (c : ℕ) (ps : List Packet) → recorded channels (map bare ps) c ≡ recorded channels ps c
recorded-bare channels c [] = refl
recorded-bare channels c (p ∷ ps) = one (does Start c p) (recorded-bare channels c ps)
  where
    one : (starts : Bool) → recorded channels (map bare ps) c ≡ recorded channels ps c
        → map (λ (q : Packet). content_of channels q c)
        (cond starts (bare p ∷ filter (does Start c) (map bare ps)) (filter (does Start c) (map bare ps)))
        ≡ map (λ (q : Packet). content_of channels q c) (cond starts (p ∷ filter (does Start c) ps) (filter (does Start c) ps))
    one true same = ap (λ rs. content_of channels p c ∷ rs) same
    one false same = same

-- ---- the order of events
pub order-bare : (channels : List Channel) (packets out : List Packet) → AreInOrder channels packets (map bare out)
    → AreInOrder channels packets out
order-bare channels packets out order = record {
  events = λ kind c j p x packet at held is.
      (let there = order.events kind c j p x (bare packet) at held (nth-bare kind c j p out packet is) in
      record {
        place = there.place;
        original = there.original;
        is = there.is;
        covers = λ d l. (let e = count-front End d p out in let h = there.covers d l in omega (arith, e, h));
        content = there.content;
      });
  contents = λ c x at inward.
      subst (λ (contents : List (List ℕ)). contents ≡ take (length contents) (recorded channels packets c)) (recorded-bare channels c out)
      (order.contents c x at inward);
}

-- ---- epoch by epoch
-- the packets of rows and more rows
packets-on : (channels : List Channel) (t e : ℕ) (rows more : List Row)
    → packets_from channels t e (rows ++ more) ≡ packets_from channels t e rows ++ packets_from channels (t + length rows) (end_of t e rows) more
packets-on channels t e [] more = ap (λ n. packets_from channels n e more) (let same : t ≡ t + 0 = omega arith in same)
packets-on channels t e (row ∷ rows) more =
    let on : t + 1 + length rows ≡ t + length (row ∷ rows) = omega arith in
    ap (λ ps. packets_at channels t e row ++ ps) (packets-on channels (t + 1) (end_after t e row) rows more)
    ∙ sym (append_assoc (packets_at channels t e row) (packets_from channels (t + 1) (end_after t e row) rows)
    (packets_from channels (t + 1 + length rows) (end_of (t + 1) (end_after t e row) rows) more))
    ∙ ap (λ n. packets_from channels t e (row ∷ rows) ++ packets_from channels n (end_of (t + 1) (end_after t e row) rows) more) on

-- those of a stretch: the reset before it, where it is a later one, and others, none of which is a reset and which are its rows' but for gaps
record IsSplit (channels : List Channel) (later : Bool) (rows : List Row) (ps : List Packet) : Type 0 where
  gap : ℕ
  own : List Packet
  parts : ps ≡ cond later (reset_packet gap ∷ own) own
  plain : HasNoReset own
  same : map bare own ≡ packets_of channels rows

split-first : (channels : List Channel) (t before : ℕ) (rows : List Row) → IsMarked false rows
    → IsSplit channels false rows (packets_from channels t before rows)
split-first channels t before rows marked = record {
  gap = 0;
  own = packets_from channels t before rows;
  parts = refl;
  plain = rows-no_reset channels t before rows (λ k row at. marked.fresh k row at);
  same = gapless channels t before rows (λ k row at. marked.fresh k row at);
}

-- behind the reset come the packets of the same rows without the mark
split-later : (channels : List Channel) (t before : ℕ) (row : Row) (rows : List Row) → IsMarked true (row ∷ rows)
    → IsSplit channels true (row ∷ rows) (packets_from channels t before (row ∷ rows))
split-later channels t before row rows marked = record {
  gap = t - before;
  own = packets_from channels t (own_before t before row) (quiet ∷ rows);
  parts = ap (λ b. (cond b (reset_packet (t - before) ∷ []) []
      ++ cond (has_event row) (after_gap (t - own_before t before row) (packet_of channels row) ∷ []) [])
      ++ packets_from channels (t + 1) (end_after t before row) rows) (marked.fresh 0 row refl);
  plain = rows-no_reset channels t (own_before t before row) (quiet ∷ rows) none;
  same = gapless channels t (own_before t before row) (quiet ∷ rows) none ∙ one (has_event row) (filter has_event rows);
}
  where
    quiet : Row
    quiet = record row { fresh = false }

    none : (k : ℕ) (other : Row) → slice_get (quiet ∷ rows) k ≡ Some other → other.fresh ≡ false
    none zero other at = ap (λ (r : Row). r.fresh) (sym (same_Some quiet other at))
    none (suc k) other at = others-plain true row rows marked k other at

    one : (b : Bool) (rs : List Row) → map (packet_of channels) (cond b (quiet ∷ rs) rs) ≡ map (packet_of channels) (cond b (row ∷ rs) rs)
    one true rs = refl
    one false rs = refl

-- packets without a reset, and others behind them
epoch-first : (own more : List Packet) → All (λ (p : Packet). p.reset ≡ false) own → epoch 0 (own ++ more) ≡ own ++ epoch 0 more
epoch-first [] more none = refl
epoch-first (p ∷ own) more none =
    ap (λ b. cond b [] (p ∷ epoch 0 (own ++ more))) (All-head (λ (q : Packet). q.reset ≡ false) p own none)
    ∙ ap (λ ps. p ∷ ps) (epoch-first own more (All-tail (λ (q : Packet). q.reset ≡ false) p own none))

epoch-over : (e : ℕ) (own more : List Packet) → All (λ (p : Packet). p.reset ≡ false) own → epoch (suc e) (own ++ more) ≡ epoch (suc e) more
epoch-over e [] more none = refl
epoch-over e (p ∷ own) more none =
    ap (λ b. cond b (epoch e (own ++ more)) (epoch (suc e) (own ++ more))) (All-head (λ (q : Packet). q.reset ≡ false) p own none)
    ∙ epoch-over e own more (All-tail (λ (q : Packet). q.reset ≡ false) p own none)

resets-over : (own more : List Packet) → HasNoReset own → resets (own ++ more) ≡ resets more
resets-over own more none = let both = count-append (λ (p : Packet). p.reset) own more in omega (arith, both, none)

-- the packets of stretches each of which begins with a reset
record AreEpochs (channels : List Channel) (ss : List (List Row)) (ps : List Packet) : Type 0 where
  many : resets ps ≡ length ss
  first : epoch 0 ps ≡ []
  each : (k : ℕ) (rows : List Row) → slice_get ss k ≡ Some rows → map bare (epoch (suc k) ps) ≡ packets_of channels rows

behind-reset : (channels : List Channel) (gap : ℕ) (own rest : List Packet) (s : List Row) (ss : List (List Row)) → HasNoReset own
    → map bare own ≡ packets_of channels s → AreEpochs channels ss rest → AreEpochs channels (s ∷ ss) (reset_packet gap ∷ (own ++ rest))
behind-reset channels gap own rest s ss plain same on = record {
  many = (let one = count-cons (λ (p : Packet). p.reset) (reset_packet gap) (own ++ rest) in
      let over = resets-over own rest plain in
      let more = on.many in
      omega (arith, one, over, more));
  first = refl;
  each = each;
}
  where
    each : (k : ℕ) (rows : List Row) → slice_get (s ∷ ss) k ≡ Some rows
        → map bare (epoch (suc k) (reset_packet gap ∷ (own ++ rest))) ≡ packets_of channels rows
    each zero rows at =
        ap (map bare) (epoch-first own rest (none-resets own plain) ∙ ap (λ ps. own ++ ps) on.first ∙ append-nil own) ∙ same
        ∙ ap (packets_of channels) (same_Some s rows at)
    each (suc k) rows at = ap (map bare) (epoch-over k own rest (none-resets own plain)) ∙ on.each k rows at

later-epochs : (channels : List Channel) (t before : ℕ) (ss : List (List Row)) → AreMarked true ss
    → AreEpochs channels ss (packets_from channels t before (rows_of ss))
later-epochs channels t before [] marked = record { many = refl; first = refl; each = λ k rows at. absurd (cc) }
later-epochs channels t before ([] ∷ ss) marked = (let some = marked.0.some refl in absurd (omega (arith, some)))
later-epochs channels t before ((row ∷ rows) ∷ ss) marked =
    let s = row ∷ rows in
    let split = split-later channels t before row rows marked.0 in
    let rest = packets_from channels (t + length s) (end_of t before s) (rows_of ss) in
    let whole : packets_from channels t before (s ++ rows_of ss) ≡ reset_packet split.gap ∷ (split.own ++ rest) =
    packets-on channels t before s (rows_of ss) ∙ ap (λ ps. ps ++ rest) split.parts in
    subst (AreEpochs channels (s ∷ ss)) (sym whole) (behind-reset channels split.gap split.own rest s ss split.plain split.same
    (later-epochs channels (t + length s) (end_of t before s) ss marked.1))

-- the trace of stretches: an epoch for each
pub record IsTraceOf (channels : List Channel) (ss : List (List Row)) (ps : List Packet) : Type 0 where
  pub many : suc (resets ps) ≡ length ss
  pub each : (k : ℕ) (rows : List Row) → slice_get ss k ≡ Some rows → map bare (epoch k ps) ≡ packets_of channels rows

behind-none : (channels : List Channel) (own rest : List Packet) (s : List Row) (ss : List (List Row)) → HasNoReset own
    → map bare own ≡ packets_of channels s → AreEpochs channels ss rest → IsTraceOf channels (s ∷ ss) (own ++ rest)
behind-none channels own rest s ss plain same on = record {
  many = (let over = resets-over own rest plain in let more = on.many in omega (arith, over, more));
  each = each;
}
  where
    each : (k : ℕ) (rows : List Row) → slice_get (s ∷ ss) k ≡ Some rows → map bare (epoch k (own ++ rest)) ≡ packets_of channels rows
    each zero rows at =
        ap (map bare) (epoch-first own rest (none-resets own plain) ∙ ap (λ ps. own ++ ps) on.first ∙ append-nil own) ∙ same
        ∙ ap (packets_of channels) (same_Some s rows at)
    each (suc k) rows at = ap (map bare) (epoch-over k own rest (none-resets own plain)) ∙ on.each k rows at

pub trace-epochs : (channels : List Channel) (ss : List (List Row)) → AreMarked false ss → 0 < length ss
    → IsTraceOf channels ss (packets_from channels 0 0 (rows_of ss))
trace-epochs channels [] marked some = absurd (omega (arith, some))
trace-epochs channels (s ∷ ss) marked some =
    let split = split-first channels 0 0 s marked.0 in
    let rest = packets_from channels (0 + length s) (end_of 0 0 s) (rows_of ss) in
    let whole : packets_from channels 0 0 (s ++ rows_of ss) ≡ split.own ++ rest =
    packets-on channels 0 0 s (rows_of ss) ∙ ap (λ ps. ps ++ rest) split.parts in
    subst (IsTraceOf channels (s ∷ ss)) (sym whole) (behind-none channels split.own rest s ss split.plain split.same
    (later-epochs channels (0 + length s) (end_of 0 0 s) ss marked.1))
