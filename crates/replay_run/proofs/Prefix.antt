-- The contents that a replay's output records of an inward channel are a prefix of those of its trace.
use Rattle.std.proofs.Common.{◌≡◌, ℕ, zero, suc, ◌+◌, ◌<◌, ◌≤◌, nat_lt, Bool, true, false, cond, List, [], ◌∷◌, ◌++◌, Some, All}
use Rattle.std.proofs.Common.{length, map, take, drop, slice_get, get_or, count_by, refl, ap, sym, subst, ◌∙◌, append_assoc, arith}
use Rattle.std.specs.List.{filter}
use Rattle.std.proofs.Math.Seq.{take-add}
use Rattle.std.proofs.lemmas.List.{append-nil, drop_at, flat_map_more, length-append, length-map, length-take, map-append, take-append-le, take_all, take_at}
use Rattle.std.proofs.lemmas.List.Elements.{All-head, All-tail, filter-append}
use Rattle.std.proofs.lemmas.List.Sums.{length-filter}
use Rattle.std.proofs.lemmas.Option.{same_Some, slice_get_within}
use Rattle.trace_code.specs.trace_model.declared.channel.Channel.{Channel}
use Rattle.trace_code.specs.trace_model.declared.channel.Dir.TheVariants.{Inward}
use Rattle.trace_code.specs.trace_model.declared.event.Kind.TheVariants.{Reset, Start}
use Rattle.trace_code.specs.trace_model.declared.packet.Packet.{Packet}
use Rattle.trace_code.specs.trace_model.declared.row.Row.{Row}
use Rattle.trace_code.specs.trace_model.Epoch.{epoch, resets}
use Rattle.trace_code.specs.trace_model.Packet.{content_of, count, does, IsPacket}
use Rattle.trace_code.specs.trace_model.Recording.{packets_of, recorded, row_does, shown, trace_of, transactions}
use Rattle.trace_code.specs.trace_model.Row.{content_at, AreRows, IsOver}
use Rattle.trace_code.proofs.trace_model_lemmas.CountingLemmas.{slice_get-append, slice_get-last}
use Rattle.trace_code.proofs.trace_model_lemmas.RowLaws.{recorded-once}
use Rattle.trace_code.proofs.trace_model_lemmas.TraceLaws.{trace-records}
use Rattle.net_design.specs.declared.design.Design.{Design}
use Rattle.run_stage.specs.chan_map.declared.pins.Map.{Map}
use Rattle.run_stage.specs.run_model.Stretches.{AreStretches, IsDone, IsEpochReplay, TurnsEpoch, and_stretch, rows_of}
use Rattle.run_stage.specs.Stretching.{all_rows}
use Rattle.run_laws.proofs.Chaining.{Follows, each-follows}
use Rattle.replay_run.specs.Ended.{AreTraceReplay}
use Rattle.replay_run.specs.Epochs.{before_epoch, epochs, epochs_from}
use Rattle.replay_run.specs.Replaying.{AreInOrderOf, ArePrefixes}
use Rattle.replay_run.proofs.Epochs.{parts, quiet-packet}

-- ---- what packets and rows record of a channel, piece by piece
length-chosen : {X Y : Type 0} (f : X → Y) (test : X → Bool) (xs : List X) → length (map f (filter test xs)) ≡ count_by test xs
length-chosen f test xs = length-map (filter test xs) f ∙ length-filter test xs

module _ (channels : List Channel) (c : ℕ) where
  abbrev Told : List Packet → List (List ℕ)
  Told ps = recorded channels ps c

  abbrev Shown : List Row → List (List ℕ)
  Shown rows = transactions channels rows c

  told-append : (ps qs : List Packet) → Told (ps ++ qs) ≡ Told ps ++ Told qs
  told-append ps qs = ap (map (λ (p : Packet). content_of channels p c)) (filter-append (does Start c) ps qs)
      ∙ map-append (λ (p : Packet). content_of channels p c) (filter (does Start c) ps) (filter (does Start c) qs)

  shown-append : (xs ys : List Row) → Shown (xs ++ ys) ≡ Shown xs ++ Shown ys
  shown-append xs ys = ap (map (λ (row : Row). content_at channels row.contents c)) (filter-append (row_does Start c) xs ys)
      ∙ map-append (λ (row : Row). content_at channels row.contents c) (filter (row_does Start c) xs) (filter (row_does Start c) ys)

  -- a reset records nothing
  abbrev IsQuiet : Packet → Type 0
  IsQuiet p = p.reset ≡ true → does Start c p ≡ false

  none-told : (p : Packet) → does Start c p ≡ false → Told (p ∷ []) ≡ []
  none-told p z = ap (λ b. map (λ (q : Packet). content_of channels q c) (cond b (p ∷ []) [])) z

  -- the packets before the next epoch record what those before this one do, and then what it does
  told-epoch : (e : ℕ) (ps : List Packet) → All IsQuiet ps → Told (before_epoch (suc e) ps) ≡ Told (before_epoch e ps) ++ Told (epoch e ps)
  told-epoch zero [] quiet = refl
  told-epoch (suc e) [] quiet = refl
  told-epoch zero (p ∷ ps) quiet = one p.reset refl (told-epoch zero ps (All-tail IsQuiet p ps quiet))
    where
      one : (b : Bool) → p.reset ≡ b → Told (before_epoch 1 ps) ≡ [] ++ Told (epoch 0 ps)
          → Told (p ∷ cond b [] (before_epoch 1 ps)) ≡ [] ++ Told (cond b [] (p ∷ epoch 0 ps))
      one true r on = none-told p (All-head IsQuiet p ps quiet r)
      one false r on = told-append (p ∷ []) (before_epoch 1 ps) ∙ ap (λ xs. Told (p ∷ []) ++ xs) on ∙ sym (told-append (p ∷ []) (epoch 0 ps))
  told-epoch (suc e) (p ∷ ps) quiet = one p.reset (told-epoch e ps (All-tail IsQuiet p ps quiet))
      (told-epoch (suc e) ps (All-tail IsQuiet p ps quiet))
    where
      on : (xs ys zs : List Packet) → Told zs ≡ Told xs ++ Told ys → Told (p ∷ zs) ≡ Told (p ∷ xs) ++ Told ys
      on xs ys zs e = told-append (p ∷ []) zs ∙ ap (λ ws. Told (p ∷ []) ++ ws) e ∙ sym (append_assoc (Told (p ∷ [])) (Told xs) (Told ys))
          ∙ ap (λ ws. ws ++ Told ys) (sym (told-append (p ∷ []) xs))

      one : (b : Bool) → Told (before_epoch (suc e) ps) ≡ Told (before_epoch e ps) ++ Told (epoch e ps)
          → Told (before_epoch (suc (suc e)) ps) ≡ Told (before_epoch (suc e) ps) ++ Told (epoch (suc e) ps)
          → Told (p ∷ cond b (before_epoch (suc e) ps) (before_epoch (suc (suc e)) ps))
          ≡ Told (p ∷ cond b (before_epoch e ps) (before_epoch (suc e) ps)) ++ Told (cond b (epoch e ps) (epoch (suc e) ps))
      one true now later = on (before_epoch e ps) (epoch e ps) (before_epoch (suc e) ps) now
      one false now later = on (before_epoch (suc e) ps) (epoch (suc e) ps) (before_epoch (suc (suc e)) ps) later

-- ---- each stretch of a replay
module _ (d : Design) (m : Map) (packets : List Packet) where
  abbrev Is : List (List Packet) → List Row → Type 0
  Is left rows = IsEpochReplay d m (length (epochs packets)) left rows

  abbrev Turn : List (List Packet) → List Row → Type 0
  Turn left rows = TurnsEpoch m.channels left rows

  abbrev Next : List (List Packet) → List Row → List (List Packet)
  Next left rows = drop 1 left

  -- all but the last are done
  done-turn : (i n : ℕ) (rows : List Row) → Turn (epochs_from i (suc n) packets) rows → IsDone m.channels (epoch i packets) rows
  done-turn i zero rows turns = absurd turns
  done-turn i (suc n) rows turns = turns

  more-left : (i n : ℕ) (rows : List Row) → Turn (epochs_from i (suc n) packets) rows → (k : ℕ) × (n ≡ suc k)
  more-left i zero rows turns = absurd turns
  more-left i (suc n) rows turns = (n, refl)

  abbrev Are : ℕ → ℕ → List (List Row) → Type 0
  Are i n ss = AreStretches Is Turn Next (epochs_from i n packets) ss

  each-done : (i n : ℕ) (past : List (List Row)) (here : List Row) → Are i (suc n) (and_stretch past here) → (k : ℕ) (rows : List Row)
      → slice_get past k ≡ Some rows → IsDone m.channels (epoch (i + k) packets) rows
  each-done i n [] here are k rows at = absurd (cc)
  each-done i n (s ∷ []) here are zero rows at =
      subst (λ j. IsDone m.channels (epoch j packets) rows) (let e : i ≡ i + 0 = omega arith in e)
      (subst (IsDone m.channels (epoch i packets)) (same_Some s rows at) (done-turn i n s are.0.turns))
  each-done i n (s ∷ []) here are (suc k) rows at = absurd (cc)
  each-done i n (s ∷ u ∷ us) here are zero rows at =
      subst (λ j. IsDone m.channels (epoch j packets) rows) (let e : i ≡ i + 0 = omega arith in e)
      (subst (IsDone m.channels (epoch i packets)) (same_Some s rows at) (done-turn i n s are.0.turns))
  each-done i n (s ∷ u ∷ us) here are (suc k) rows at =
      let w = more-left i n s are.0.turns in
      let rest : Are (suc i) (suc w.0) (and_stretch (u ∷ us) here) =
      subst (λ (j : ℕ). AreStretches Is Turn Next (epochs_from (suc i) j packets) (and_stretch (u ∷ us) here)) w.1 are.2 in
      subst (λ j. IsDone m.channels (epoch j packets) rows) (let e : suc i + k ≡ i + suc k = omega arith in e)
      (each-done (suc i) w.0 (u ∷ us) here rest k rows at)

  -- their rows are over the channels
  each-over : (ss : List (List Row)) → AreTraceReplay d m packets ss → (k : ℕ) (rows : List Row) → slice_get ss k ≡ Some rows
      → (t : ℕ) (row : Row) → slice_get rows t ≡ Some row → IsOver m.channels row
  each-over ss are k rows at t row there =
      let f = each-follows Is Turn Next (λ left. Unit {0}) (λ left rows fine turned. tt) (epochs packets) tt ss are k rows at in
      over f.so_far f.is
    where
      over : (left : List (List Packet)) → Is left rows → IsOver m.channels row
      over [] is = absurd is
      over (e ∷ es) is = (is.marked t row there).0

  -- ---- what they record
  module _ (past : List (List Row)) (here : List Row) (are : AreTraceReplay d m packets (and_stretch past here))
      (order : AreInOrderOf m.channels packets (and_stretch past here)) (lawful : All (IsPacket m.channels) packets) (c : ℕ) (x : Channel)
      (at : slice_get m.channels c ≡ Some x) (inward : x.dir ≡ Inward) where
    abbrev All-told : List Packet → List (List ℕ)
    All-told ps = recorded m.channels ps c

    abbrev All-shown : List Row → List (List ℕ)
    All-shown rows = transactions m.channels rows c

    quiet : All (λ (p : Packet). p.reset ≡ true → does Start c p ≡ false) packets
    quiet i q l r = quiet-packet m.channels Start c (λ e. not-reset e) (get_or packets i q) (lawful i q l) r
      where
        not-reset : Start ≡ Reset → ⊥
        not-reset e = absurd (cc)

    marked : (k : ℕ) (rows : List Row) → slice_get (and_stretch past here) k ≡ Some rows → All-told (packets_of m.channels rows) ≡ All-shown rows
    marked k rows there = recorded-once m.channels rows (rows-of k rows there) c
      where
        rows-of : (k : ℕ) (rows : List Row) → slice_get (and_stretch past here) k ≡ Some rows → AreRows m.channels rows
        rows-of k rows there =
            let f = each-follows Is Turn Next (λ left. Unit {0}) (λ left rows fine turned. tt) (epochs packets) tt (and_stretch past here) are k rows there in
            by f.so_far f.is
          where
            by : (left : List (List Packet)) → Is left rows → AreRows m.channels rows
            by [] is = absurd is
            by (e ∷ es) is = is.marked

    -- a stretch's contents are a prefix of its epoch's
    prefix : (k : ℕ) (rows : List Row) → slice_get (and_stretch past here) k ≡ Some rows
        → All-shown rows ≡ take (length (All-shown rows)) (All-told (epoch k packets))
    prefix k rows there = subst (λ xs. xs ≡ take (length xs) (All-told (epoch k packets))) (marked k rows there)
        ((order.each k rows there).contents c x at inward)

    -- of a stretch that is done they are all of them
    whole : (k : ℕ) (rows : List Row) → slice_get past k ≡ Some rows → All-shown rows ≡ All-told (epoch k packets)
    whole k rows there =
        let w = slice_get_within past k rows there in
        let is = prefix k rows (slice_get-append past (here ∷ []) k rows there) in
        let z : 0 + k ≡ k = omega arith in
        let done = subst (λ j. IsDone m.channels (epoch j packets) rows) z (each-done 0 (resets packets) past here are k rows there) in
        let l = (done c x at).1 inward in
        let a = length-chosen (λ (row : Row). content_at m.channels row.contents c) (row_does Start c) rows in
        let b = length-chosen (λ (p : Packet). content_of m.channels p c) (does Start c) (epoch k packets) in
        is ∙ take_all (length (All-shown rows)) (All-told (epoch k packets)) (omega (arith, l, a, b))

    -- the stretches from the i-th on
    chain : (i : ℕ) (ss : List (List Row)) → ((k : ℕ) (rows : List Row) → slice_get ss k ≡ Some rows → All-shown rows ≡ All-told (epoch (i + k) packets))
        → All-told (before_epoch i packets) ++ All-shown (rows_of ss) ≡ All-told (before_epoch (i + length ss) packets)
    chain i [] each = append-nil (All-told (before_epoch i packets)) ∙ ap (λ j. All-told (before_epoch j packets)) (let e : i ≡ i + 0 = omega arith in e)
    chain i (s ∷ ss) each =
        let z : i + 0 ≡ i = omega arith in
        let first : All-shown s ≡ All-told (epoch i packets) = each 0 s refl ∙ ap (λ j. All-told (epoch j packets)) z in
        ap (λ xs. All-told (before_epoch i packets) ++ xs) (shown-append m.channels c s (rows_of ss) ∙ ap (λ xs. xs ++ All-shown (rows_of ss)) first)
        ∙ sym (append_assoc (All-told (before_epoch i packets)) (All-told (epoch i packets)) (All-shown (rows_of ss)))
        ∙ ap (λ xs. xs ++ All-shown (rows_of ss)) (sym (told-epoch m.channels c i packets quiet))
        ∙ chain (suc i) ss (λ k rows there. each (suc k) rows there ∙ ap (λ j. All-told (epoch j packets)) (let e : i + suc k ≡ suc i + k = omega arith in e))
        ∙ ap (λ j. All-told (before_epoch j packets)) (let e : suc i + length ss ≡ i + suc (length ss) = omega arith in e)

    all-shown : All-shown (all_rows past here) ≡ All-told (before_epoch (length past) packets) ++ All-shown here
    all-shown =
        let z : 0 + length past ≡ length past = omega arith in
        shown-append m.channels c (rows_of past) here ∙ ap (λ xs. xs ++ All-shown here)
        (chain 0 past (λ k rows there. whole k rows there ∙ ap (λ j. All-told (epoch j packets)) (let e : k ≡ 0 + k = omega arith in e))
        ∙ ap (λ j. All-told (before_epoch j packets)) z)

    front-is : {X : Type 0} (xs h b rest : List X) → h ≡ take (length h) b → xs ++ h ≡ take (length (xs ++ h)) (xs ++ (b ++ rest))
    front-is xs h b rest e =
        let size = length-append xs h in
        let fits : length h ≤ length b = (let l = ap length e in let t = length-take (length h) b in omega (arith, l, t)) in
        sym (ap (λ n. take n (xs ++ (b ++ rest))) size ∙ take-add (length xs) (length h) (xs ++ (b ++ rest))
        ∙ ap (λ ys. ys ++ take (length h) (drop (length xs) (xs ++ (b ++ rest)))) (take_at xs (b ++ rest) (length xs) refl)
        ∙ ap (λ ys. xs ++ take (length h) ys) (drop_at xs (b ++ rest) (length xs) refl)
        ∙ ap (λ ys. xs ++ ys) (take-append-le (length h) b rest fits ∙ sym e))

    all-over : (t : ℕ) (row : Row) → slice_get (all_rows past here) t ≡ Some row → IsOver m.channels row
    all-over t row there = over (and_stretch past here) (λ k rows is. each-over (and_stretch past here) are k rows is) t row
        (ap (λ rows. slice_get rows t) (sym (flat_map_more (λ (rows : List Row). rows) [] past here)) ∙ there)
      where
        both : (xs ys : List Row) → ((t : ℕ) (row : Row) → slice_get xs t ≡ Some row → IsOver m.channels row)
            → ((t : ℕ) (row : Row) → slice_get ys t ≡ Some row → IsOver m.channels row) → (t : ℕ) (row : Row)
            → slice_get (xs ++ ys) t ≡ Some row → IsOver m.channels row
        both [] ys f g t row is = g t row is
        both (y ∷ xs) ys f g zero row is = f 0 row is
        both (y ∷ xs) ys f g (suc t) row is = both xs ys (λ i r e. f (suc i) r e) g t row is

        over : (ss : List (List Row)) → ((k : ℕ) (rows : List Row) → slice_get ss k ≡ Some rows → (t : ℕ) (row : Row)
            → slice_get rows t ≡ Some row → IsOver m.channels row) → (t : ℕ) (row : Row) → slice_get (rows_of ss) t ≡ Some row → IsOver m.channels row
        over [] each t row is = absurd (cc)
        over (s ∷ ss) each t row is = both s (rows_of ss) (each 0 s refl) (over ss (λ k rows e. each (suc k) rows e)) t row is

    contents-prefix : All-told (trace_of m.channels (all_rows past here)).packets
        ≡ take (length (All-told (trace_of m.channels (all_rows past here)).packets)) (All-told packets)
    contents-prefix =
        let p = parts (length past) packets in
        let told : All-told packets
        ≡ All-told (before_epoch (length past) packets) ++ (All-told (epoch (length past) packets) ++ All-told p.rest) =
        ap All-told (sym p.all) ∙ told-append m.channels c (before_epoch (length past) packets) (epoch (length past) packets ++ p.rest)
        ∙ ap (λ xs. All-told (before_epoch (length past) packets) ++ xs) (told-append m.channels c (epoch (length past) packets) p.rest) in
        let out = trace-records m.channels (all_rows past here) all-over c ∙ all-shown in
        subst (λ xs. xs ≡ take (length xs) (All-told packets)) (sym out)
        (front-is (All-told (before_epoch (length past) packets)) (All-shown here) (All-told (epoch (length past) packets)) (All-told p.rest)
        (prefix (length past) here (slice_get-last past here))
        ∙ ap (take (length (All-told (before_epoch (length past) packets) ++ All-shown here))) (sym told))

pub prefixes : (d : Design) (m : Map) (packets : List Packet) (past : List (List Row)) (here : List Row)
    → AreTraceReplay d m packets (and_stretch past here) → AreInOrderOf m.channels packets (and_stretch past here)
    → All (IsPacket m.channels) packets → ArePrefixes m.channels packets (trace_of m.channels (all_rows past here)).packets
prefixes d m packets past here are order lawful c x at inward = contents-prefix d m packets past here are order lawful c x at inward
