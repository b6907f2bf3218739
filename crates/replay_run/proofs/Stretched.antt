-- What holds of the stretches of a replay, however it ends.
use Rattle.std.proofs.Common.{◌≡◌, ℕ, zero, suc, ◌+◌, ◌-◌, ◌<◌, ◌≤◌, nat_lt, ◌⊎◌, ◌&&◌, Bool, true, false, cond, List, [], ◌∷◌, ◌++◌, Option, None, Some, All}
use Rattle.std.proofs.Common.{append_assoc, drop, fold, get_or, length, map, slice_get, take, inl, inr, refl, ap, sym, subst, ◌∙◌, ⊎_elim, arith}
use Rattle.std.proofs.Math.Bool.{and-false}
use Rattle.std.specs.Prelude.{Contains}
use Rattle.std.proofs.lemmas.Bool.{cases_lt, false≢true, le-ltb, lt-ltb}
use Rattle.std.proofs.lemmas.List.{append-nil, flat_map_more, get_or-map, length-append, length-map, length-take, length_push}
use Rattle.std.proofs.lemmas.List.{take-append-le, take-take}
use Rattle.std.proofs.lemmas.List.Sums.{fold-append}
use Rattle.std.proofs.lemmas.List.Elements.{All-append, All-cons, All-map, All-nil, All-same, Contains-append_left, Contains-append_right, Contains-push}
use Rattle.std.proofs.lemmas.Option.{same_Some, slice_get-get_or, slice_get_within}
use Rattle.trace_code.specs.vidi_bits.Findings.{is_nil}
use Rattle.trace_code.specs.trace_model.declared.channel.Channel.{Channel}
use Rattle.trace_code.specs.trace_model.declared.event.Event.{Event}
use Rattle.trace_code.specs.trace_model.declared.event.Kind.TheVariants.{Reset, End}
use Rattle.trace_code.specs.trace_model.declared.packet.Packet.{Packet}
use Rattle.trace_code.specs.trace_model.declared.packet.TheConstants.{MOST_CYCLES}
use Rattle.trace_code.specs.trace_model.declared.row.Row.{Row}
use Rattle.trace_code.specs.trace_model.Channel.{IsTable}
use Rattle.trace_code.specs.trace_model.Epoch.{epoch, resets, stretch}
use Rattle.trace_code.specs.trace_model.Laws.{KeepsInFlight}
use Rattle.trace_code.specs.trace_model.Packet.{count, does, IsPacket}
use Rattle.trace_code.specs.trace_model.Recording.{packets_of, trace_of}
use Rattle.trace_code.specs.trace_model.Row.{AreRows}
use Rattle.trace_code.specs.trace_model.Stability.{IsUnstableAt}
use Rattle.trace_code.specs.trace_model.Trace.{IsWellFormed}
use Rattle.trace_code.specs.Encoding.{HasEncoding}
use Rattle.trace_code.proofs.trace_model_lemmas.CountingLemmas.{nth-below, slice_get-last, slice_get-take}
use Rattle.trace_code.proofs.trace_model_lemmas.EpochLemmas.{epochs-alone}
use Rattle.trace_code.proofs.trace_model_lemmas.TraceLaws.{rows-well_formed}
use Rattle.trace_code.proofs.NoReset.{none-resets}
use Rattle.trace_code.proofs.RowsBytes.{rows-few}
use Rattle.net_design.specs.declared.design.Design.{Design}
use Rattle.run_laws.specs.StretchLaws.{IsResetFree}
use Rattle.run_laws.proofs.Chaining.{each-follows}
use Rattle.run_laws.proofs.Ending.{shorter, take-over, stable-front, some-before, all-stable}
use Rattle.run_laws.proofs.StretchLaws.{no-circle_in_stretches, order-in_stretches, replay-stretches_keep_contents}
use Rattle.run_stage.specs.chan_map.declared.pins.Map.{Map}
use Rattle.run_stage.specs.run_model.declared.held.Await.{Await}
use Rattle.run_stage.specs.run_model.declared.held.Held.{Held}
use Rattle.run_stage.specs.run_model.Held.{awaits, held_if, held_in, held_reset, packet_place, reset_event, waits_in, waits_reset}
use Rattle.run_stage.specs.run_model.Laws.{AreInOrder, ContentsStay, IsFirstOpen, IsFree, IsIn}
use Rattle.run_stage.specs.run_model.Played.{AreStable, is_fresh_after}
use Rattle.run_stage.specs.run_model.Replay.{done, HasEnded, IsEpochRow}
use Rattle.run_stage.specs.run_model.Stretches.{and_stretch, rows_of, AreReplayed, AreStretches, IsEpochReplay, IsLastEpoch, TurnsEpoch}
use Rattle.run_stage.specs.Stretching.{all_rows, AllAreStable}
use Rattle.run_stage.proofs.run_model_lemmas.EventPlaces.{place-is}
use Rattle.run_stage.proofs.run_model_lemmas.PlayedLaws.{played-front, row-before_take, within}
use Rattle.run_stage.proofs.run_model_lemmas.ReplayLaws.{replay-keeps}
use Rattle.run_stage.proofs.run_model_lemmas.Stays.{keeps-in-flight}
use Rattle.replay_run.specs.declared.outcome.ReplayOutcome.{ReplayOutcome}
use Rattle.replay_run.specs.declared.outcome.ReplayOutcome.TheVariants.{Ended, Short, Unstable}
use Rattle.replay_run.specs.Ended.{AreShortReplay, AreTraceReplay, HasEndedIn}
use Rattle.replay_run.specs.Epochs.{epochs}
use Rattle.replay_run.specs.Replaying.{AreInOrderOf, EndsAs, GoesInNoCircle, IsUnheld, held_behind, waits_behind}
use Rattle.replay_run.proofs.Epochs.{epoch-all, epoch-plain, epochs-get, epochs-long}
use Rattle.replay_run.proofs.Renumbered.{held-in, held-numbered, numbered, waits-in}
use Rattle.run_stage.proofs.run_model_lemmas.PinLemmas.{all-at}

-- ---- epochs
epochs-many : (packets : List Packet) → length (epochs packets) ≡ suc (resets packets)
epochs-many packets = epochs-long 0 (suc (resets packets)) packets

epochs-at : (k : ℕ) (packets : List Packet) → k ≤ resets packets → slice_get (epochs packets) k ≡ Some (epoch k packets)
epochs-at k packets l =
    epochs-get 0 (suc (resets packets)) k packets (omega (arith, l)) ∙ ap (λ (i : ℕ). Some (epoch i packets)) (let z : 0 + k ≡ k = omega arith in z)

epoch-is : (k : ℕ) (packets there : List Packet) → slice_get (epochs packets) k ≡ Some there → there ≡ epoch k packets
epoch-is k packets there at =
    let many = epochs-many packets in
    let within = slice_get_within (epochs packets) k there at in
    same_Some there (epoch k packets) (sym at ∙ epochs-at k packets (omega (arith, many, within)))

-- ---- the rows

module _ (d : Design) (m : Map) (packets : List Packet) (n : ℕ) (past : List (List Row)) (here : List Row) where
  epoch-front : (all : ℕ) (left : List (List Packet)) (rows : List Row) (k : ℕ) → IsEpochReplay d m all left rows
      → IsEpochReplay d m all left (take k rows)
  epoch-front all [] rows k is = absurd is
  epoch-front all (e ∷ left) rows k is = played-front d m (IsEpochRow (nat_lt (suc (length left)) all) m.channels e) rows k is

  -- however it ends, the stretches are a replay of the trace and stable, and have at most as many rows as there are cycles
  pub record ArePlayedOut : Type 0 where
    pub played : AreTraceReplay d m packets (and_stretch past here)
    pub stable : All (AreStable m.channels) (and_stretch past here)
    pub within : length (all_rows past here) ≤ n

  pub ends-played : (o : ReplayOutcome) → EndsAs d m packets n past here o → ArePlayedOut
  ends-played (Ended cycles) (e, same) =
      record { played = e.played; stable = all-stable m.channels past here e.stable.before e.stable.last; within = e.within }
  ends-played (Short helds events) (e, held_are, waits_are) = record {
    played = e.played;
    stable = all-stable m.channels past here e.stable.before e.stable.last;
    within = (let l = e.all in omega (arith, l));
  }
  ends-played (Unstable channel cycle) (e, same) = record {
    played = shorter (IsEpochReplay d m (length (epochs packets))) (TurnsEpoch m.channels) (λ left rows. drop 1 left)
        (epoch-front (length (epochs packets))) (epochs packets) past here e.stops.next e.stops.played
        (some-before m.channels here e.stops.next channel e.stops.unstable);
    stable = all-stable m.channels past here e.stops.before e.stops.stable;
    within = (let l = e.within in omega (arith, l));
  }

  pub ends-order : (o : ReplayOutcome) → EndsAs d m packets n past here o → AreInOrderOf m.channels packets (and_stretch past here)
  ends-order o ends =
      let all = ends-played o ends in
      let law = order-in_stretches d m (epochs packets) (and_stretch past here) all.played in
      record {
        few = law.0;
        each = λ k rows at.
            (let of = law.1 k rows at (all-at (AreStable m.channels) (and_stretch past here) k rows all.stable at) in
            subst (λ (ps : List Packet). AreInOrder m.channels ps (packets_of m.channels rows)) (epoch-is k packets of.0 of.1) of.2);
      }

  pub ends-contents : (o : ReplayOutcome) → EndsAs d m packets n past here o → All (ContentsStay m.channels) (and_stretch past here)
  ends-contents o ends =
      let all = ends-played o ends in
      λ k rows l. (replay-stretches_keep_contents d m (epochs packets) (and_stretch past here) all.played k _
      (slice_get-get_or (and_stretch past here) k rows l) (all.stable k rows l)).0

-- ---- no circle
-- an epoch of a well-formed trace is one
epoch-well : (channels : List Channel) (packets : List Packet) (e : ℕ) → IsWellFormed (record { channels = channels; packets = packets })
    → IsWellFormed (record { channels = channels; packets = epoch e packets })
epoch-well channels packets e well = record {
  packets = epoch-all (IsPacket channels) e packets well.packets;
  alternate = epochs-alone (epoch e packets) (none-resets (epoch e packets) (epoch-plain e packets)) (well.alternate e);
}

-- no reset is recorded in an epoch
reset-out : (packets : List Packet) (e p : ℕ) → resets packets ≡ 0 → IsIn packets p (reset_event e) → ⊥
reset-out packets e p none is-in =
    let at = place-is (does Reset 0) 0 packets e p is-in in
    let below = nth-below (does Reset 0) packets e at.q at.x at.is in
    omega (arith, below, none)

Contains-map : {X Y : Type 0} (f : X → Y) (xs : List X) (x : X) → Contains xs x → Contains (map f xs) (f x)
Contains-map f xs x (k, l, e) =
    (k, (let long = length-map xs f in omega (arith, l, long)), get_or-map f xs k x (f x) l ∙ ap f e)

module _ (channels : List Channel) (packets : List Packet) (e : ℕ) (more : Bool) (rows : List Row) where
  -- what isn't held back of the first epoch's events isn't held back of these
  unheld : (p : ℕ) → resets packets ≡ 0 → IsFree channels packets rows p
      → IsUnheld packets (held_in e channels packets rows ++ held_reset e more channels packets rows)
      (waits_in e channels packets rows ++ waits_reset e more channels packets rows) p
  unheld p none free =
      let P : Held → Type 0 = λ h. ¬ IsIn packets p h.event in
      record {
        free = All-append P (held_in e channels packets rows) (held_reset e more channels packets rows)
            (All-same P (held_in e channels packets rows) (map (held-numbered e) (held_in 0 channels packets rows)) (held-in channels packets rows e)
            (All-map P (held-numbered e) (held_in 0 channels packets rows) free.free))
            (by-more more);
        event = numbered e free.event;
        is_in = free.is_in;
        waiting = Contains-append_left (waits_in e channels packets rows) (waits_reset e more channels packets rows) (numbered e free.event)
            (subst (λ (events : List Event). Contains events (numbered e free.event)) (sym (waits-in channels packets rows e))
            (Contains-map (numbered e) (waits_in 0 channels packets rows) free.event free.waiting));
      }
    where
      one-held : (list : List Await) → All (λ (h : Held). ¬ IsIn packets p h.event) (held_if (reset_event e) list)
      one-held [] = All-nil (λ (h : Held). ¬ IsIn packets p h.event)
      one-held (a ∷ list) = All-cons (λ (h : Held). ¬ IsIn packets p h.event) (record { event = reset_event e; awaits = a ∷ list }) []
          (λ is-in. reset-out packets e p none is-in) (All-nil (λ (h : Held). ¬ IsIn packets p h.event))

      by-more : (b : Bool) → All (λ (h : Held). ¬ IsIn packets p h.event) (held_reset e b channels packets rows)
      by-more true = one-held (awaits channels (done rows) (λ c. count End c packets))
      by-more false = All-nil (λ (h : Held). ¬ IsIn packets p h.event)

  -- a reset that awaits nothing is waited for
  reset-waits : more ≡ true → awaits channels (done rows) (λ c. count End c packets) ≡ []
      → Contains (waits_in e channels packets rows ++ waits_reset e more channels packets rows) (reset_event e)
  reset-waits there none = Contains-append_right (waits_in e channels packets rows) (waits_reset e more channels packets rows) (reset_event e)
      (subst (λ (events : List Event). Contains events (reset_event e)) (sym waits) (Contains-push [] (reset_event e)))
    where
      waits : waits_reset e more channels packets rows ≡ reset_event e ∷ []
      waits = ap (λ b. waits_reset e b channels packets rows) there
          ∙ ap (λ (list : List Await). cond (true && is_nil (held_if (reset_event e) list)) (reset_event e ∷ []) []) none

pub ends-free : (d : Design) (m : Map) (packets : List Packet) (n : ℕ) (past : List (List Row)) (here : List Row) (o : ReplayOutcome)
    → IsWellFormed (record { channels = m.channels; packets = packets }) → EndsAs d m packets n past here o
    → GoesInNoCircle m.channels packets past here o
ends-free d m packets n past here (Ended cycles) well ends = tt
ends-free d m packets n past here (Unstable channel cycle) well ends = tt
ends-free d m packets n past here (Short helds events) well ends =
    let e = ends.0 in
    let number = length past in
    let more = nat_lt number (resets packets) in
    let now = epoch number packets in
    let order = ends-order d m packets n past here (Short helds events) ends in
    let many = epochs-many packets in
    let long : length (and_stretch past here) ≡ suc number = (let l = length_push past here in omega (arith, l)) in
    let few = order.few in
    let last : IsLastEpoch (epochs packets) (and_stretch past here) number now here = record {
      number = long;
      epoch = epochs-at number packets (omega (arith, many, long, few));
      here = slice_get-last past here;
    } in
    let none = epoch-plain number packets in
    let law = no-circle_in_stretches d m (epochs packets) (and_stretch past here) e.played number now here last
    (epoch-well m.channels packets number well) none e.stable.last
    (λ (is-last, ended). e.not_ended (record { last = omega (arith, many, is-last); ended = ended })) in
    subst (λ (hs : List Held). GoesInNoCircle m.channels packets past here (Short hs events)) (sym ends.1)
    (subst (λ (es : List Event). GoesInNoCircle m.channels packets past here (Short (held_behind m.channels packets past here) es)) (sym ends.2)
    (⊎_elim
    (λ (open-at : (p : ℕ) × IsFirstOpen (length m.channels) now here p).
    inl (open-at.0, open-at.1, unheld m.channels now number more here open-at.0 none (law.1 open-at.0 open-at.1)))
    (λ (free : IsResetFree m.channels (epochs packets) number now here).
    inr (
      free.shown,
      reset-waits m.channels now number more here
          (lt-ltb number (resets packets) (let next = free.next in omega (arith, next, many))) free.free,
    ))
    law.0))

-- ---- the trace of the rows
-- a stretch, behind another one where it is a later one: its first row is fresh there, and no other is
pub record IsMarked (later : Bool) (rows : List Row) : Type 0 where
  pub fresh : (t : ℕ) (row : Row) → slice_get rows t ≡ Some row → row.fresh ≡ is_fresh_after later (take t rows)
  pub some : later ≡ true → 0 < length rows

abbrev pub AreMarked : Bool → List (List Row) → Type 0
AreMarked later [] = Unit {0}
AreMarked later (rows ∷ ss) = IsMarked later rows × AreMarked true ss

abbrev Epochs : Design → Map → ℕ → List (List Packet) → List (List Row) → Type 0
Epochs d m all left ss = AreStretches (IsEpochReplay d m all) (TurnsEpoch m.channels) (λ es rows. drop 1 es) left ss

marked-as : (d : Design) (m : Map) (all : ℕ) (e : List Packet) (left : List (List Packet)) (rows : List Row) (later : Bool)
    → nat_lt (suc (length left)) all ≡ later → (later ≡ true → 0 < length rows) → IsEpochReplay d m all (e ∷ left) rows → IsMarked later rows
marked-as d m all e left rows later same some is = record {
  fresh = λ t row at. (is.ruled t row at).2 ∙ ap (λ b. is_fresh_after b (take t rows)) same;
  some = some;
}

later-marked : (d : Design) (m : Map) (all : ℕ) (left : List (List Packet)) (s : List Row) (ss : List (List Row)) → Epochs d m all left (s ∷ ss)
    → length left < all → 0 < length s → AreMarked true (s ∷ ss)
later-marked d m all [] s [] are l some = absurd are.0
later-marked d m all [] s (t ∷ ss) are l some = absurd are.0.is
later-marked d m all (e ∷ left) s [] are l some =
    (marked-as d m all e left s true (lt-ltb (suc (length left)) all (omega (arith, l))) (λ _. some) are.0, tt)
later-marked d m all (e ∷ left) s (t ∷ ss) are l some = (
  marked-as d m all e left s true (lt-ltb (suc (length left)) all (omega (arith, l))) (λ _. some) are.0.is,
  later-marked d m all left t ss are.2 (omega (arith, l)) are.1,
)

-- the stretches of a replay
pub are-marked : (d : Design) (m : Map) (es : List (List Packet)) (ss : List (List Row)) → AreReplayed d m es ss → AreMarked false ss
are-marked d m es [] are = absurd are
are-marked d m [] (s ∷ []) are = absurd are.0
are-marked d m [] (s ∷ t ∷ ss) are = absurd are.0.is
are-marked d m (e ∷ left) (s ∷ []) are =
    (marked-as d m (suc (length left)) e left s false (le-ltb (suc (length left)) (suc (length left)) (omega arith)) (λ h. absurd (false≢true h)) are.0, tt)
are-marked d m (e ∷ left) (s ∷ t ∷ ss) are = (
  marked-as d m (suc (length left)) e left s false (le-ltb (suc (length left)) (suc (length left)) (omega arith)) (λ h. absurd (false≢true h))
      are.0.is,
  later-marked d m (suc (length left)) left t ss are.2 (omega arith) are.1,
)

-- no row but the first one is fresh
pub others-plain : (later : Bool) (row : Row) (rows : List Row) → IsMarked later (row ∷ rows) → (t : ℕ) (other : Row)
    → slice_get rows t ≡ Some other → other.fresh ≡ false
others-plain later row rows marked t other at = marked.fresh (suc t) other at ∙ and-false later

-- ---- the rows since the last reset
abbrev step : List Row → Row → List Row
step since row = cond row.fresh (row ∷ []) (since ++ row ∷ [])

stretch-fold : (rows : List Row) → stretch rows ≡ fold step [] rows
unfolding stretch
stretch-fold rows = refl

since-none : (since rows : List Row) → ((t : ℕ) (row : Row) → slice_get rows t ≡ Some row → row.fresh ≡ false) → fold step since rows ≡ since ++ rows
since-none since [] none = sym (append-nil since)
since-none since (row ∷ rows) none =
    ap (λ b. fold step (cond b (row ∷ []) (since ++ row ∷ [])) rows) (none 0 row refl)
    ∙ since-none (since ++ row ∷ []) rows (λ t r at. none (suc t) r at) ∙ append_assoc since (row ∷ []) rows

-- behind rows of others there is only this stretch
since-one : (later : Bool) (since rows : List Row) → (later ≡ false → since ≡ []) → IsMarked later rows → fold step since rows ≡ rows
since-one true since [] begins marked = (let some = marked.some refl in absurd (omega (arith, some)))
since-one false since [] begins marked = begins refl
since-one later since (row ∷ rows) begins marked =
    ap (λ b. fold step (cond b (row ∷ []) (since ++ row ∷ [])) rows) (marked.fresh 0 row refl)
    ∙ ap (λ rs. fold step rs rows) (first later begins)
    ∙ since-none (row ∷ []) rows (others-plain later row rows marked)
  where
    first : (b : Bool) → (b ≡ false → since ≡ []) → cond (b && true) (row ∷ []) (since ++ row ∷ []) ≡ row ∷ []
    first true h = refl
    first false h = ap (λ (rs : List Row). rs ++ row ∷ []) (h refl)

marked-front : (later : Bool) (k : ℕ) (rows : List Row) → 0 < k → IsMarked later rows → IsMarked later (take k rows)
marked-front later k rows some marked = record {
  fresh = λ t row at.
      (let within = slice_get_within (take k rows) t row at in
      let long = length-take k rows in
      let inside : t < k = omega (arith, within, long) in
      marked.fresh t row (sym (slice_get-take k rows t inside) ∙ at)
      ∙ ap (is_fresh_after later) (sym (take-take t k rows (omega (arith, inside)))));
  some = λ is. (let all = marked.some is in let long = length-take k rows in omega (arith, some, all, long));
}

-- rows that are a front of one of the stretches
record IsPart (ss : List (List Row)) (rows : List Row) : Type 0 where
  number : ℕ
  many : ℕ
  whole : List Row
  at : slice_get ss number ≡ Some whole
  front : rows ≡ take many whole

part-since : (later : Bool) (ss : List (List Row)) (since : List Row) → AreMarked later ss → (later ≡ false → since ≡ []) → (k : ℕ) → 0 < k
    → k ≤ length (rows_of ss) → IsPart ss (fold step since (take k (rows_of ss)))
part-since later [] since marked begins k some l = absurd (omega (arith, some, l))
part-since later (s ∷ ss) since marked begins k some l =
    let rest = rows_of ss in
    let both = length-append s rest in
    ⊎_elim
    (λ (more : length s < k).
    (let p = part-since true ss s marked.1 (λ h. absurd (false≢true (sym h))) (k - length s) (omega (arith, more)) (omega (arith, more, l, both)) in
    record {
      number = suc p.number;
      many = p.many;
      whole = p.whole;
      at = p.at;
      front = ap (fold step since) (take-over k s rest (omega (arith, more))) ∙ fold-append step since s (take (k - length s) rest)
          ∙ ap (λ rs. fold step rs (take (k - length s) rest)) (since-one later since s begins marked.0) ∙ p.front;
    }))
    (λ (less : k ≤ length s). record {
      number = 0;
      many = k;
      whole = s;
      at = refl;
      front = ap (fold step since) (take-append-le k s rest less) ∙ since-one later since (take k s) begins (marked-front later k s some marked.0);
    })
    (cases_lt (length s) k)

part : (ss : List (List Row)) → AreMarked false ss → 0 < length ss → (k : ℕ) → k ≤ length (rows_of ss) → IsPart ss (stretch (take k (rows_of ss)))
part [] marked none k l = absurd (omega (arith, none))
part (s ∷ ss) marked there zero l = record { number = 0; many = 0; whole = s; at = refl; front = stretch-fold [] }
part (s ∷ ss) marked there (suc k) l = subst (IsPart (s ∷ ss)) (sym (stretch-fold (take (suc k) (rows_of (s ∷ ss)))))
    (part-since false (s ∷ ss) [] marked (λ h. refl) (suc k) (omega arith) l)

-- in each front of a stretch no valid is taken back
keeps-part : (d : Design) (m : Map) (all : ℕ) (left : List (List Packet)) (rows : List Row) (k : ℕ) → IsEpochReplay d m all left rows
    → AreStable m.channels rows → AreRows m.channels (take k rows) × KeepsInFlight (take k rows)
keeps-part d m all [] rows k is stable = absurd is
keeps-part d m all (e ∷ left) rows k is stable =
    let later = nat_lt (suc (length left)) all in
    let front = played-front d m (IsEpochRow later m.channels e) rows k is in
    (front.marked, keeps-in-flight m.channels (take k rows) (replay-keeps later d m e (take k rows) front (stable-front m.channels rows k stable)))

pub ends-encoded : (d : Design) (m : Map) (packets : List Packet) (n : ℕ) (past : List (List Row)) (here : List Row) (o : ReplayOutcome)
    → IsTable m.channels → n ≤ MOST_CYCLES → EndsAs d m packets n past here o → HasEncoding (trace_of m.channels (all_rows past here))
ends-encoded d m packets n past here o table small ends =
    let all = ends-played d m packets n past here o ends in
    let ss = and_stretch past here in
    let rows = all_rows past here in
    let whole : rows ≡ rows_of ss = flat_map_more (λ (rs : List Row). rs) [] past here in
    let there = length_push past here in
    let few = all.within in
    let parts = part ss (are-marked d m (epochs packets) ss all.played) (omega (arith, there)) in
    let many = rows-few m.channels rows in
    record {
      table = table;
      well_formed = rows-well_formed m.channels rows (omega (arith, few, small)) (λ k l.
          (let p = parts k (subst (λ (rs : List Row). k ≤ length rs) whole l) in
          let of = each-follows (IsEpochReplay d m (length (epochs packets))) (TurnsEpoch m.channels) (λ es rs. drop 1 es) (λ es. Unit {0})
          (λ es rs _ turned. tt) (epochs packets) tt ss all.played p.number p.whole p.at in
          subst (λ (rs : List Row). AreRows m.channels rs × KeepsInFlight rs)
          (sym p.front ∙ ap (λ (rs : List Row). stretch (take k rs)) (sym whole))
          (keeps-part d m (length (epochs packets)) of.so_far p.whole p.many of.is (all-at (AreStable m.channels) ss p.number p.whole all.stable p.at))));
      few = omega (arith, many, few, small);
    }
