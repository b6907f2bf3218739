-- The lists of *End of replay*, channel by channel.
use Rattle.std.proofs.Common.{◌≡◌, ℕ, suc, ◌+◌, ◌<◌, ◌≤◌, ◌==◌, ◌&&◌, ◌||◌, min, Bool, true, false, cond, not, List, [], ◌∷◌, ◌++◌, Option, Some, None}
use Rattle.std.proofs.Common.{length, get_or, slice_get, drop, refl, sym, ap, subst, ◌∙◌, append_assoc, arith, ⊎_elim, vec_len, vec_capacity}
use Rattle.std.specs.Prelude.{◌↔◌, slice_index, is_some}
use Rattle.std.specs.Global.{Vec}
use Rattle.std.specs.List.{enumerate_from, filter, flat_map}
use Rattle.std.proofs.lemmas.Bool.{cases_lt, cond-true, cond-false, eq-eqb, false≢true, le-ltb, lt-ltb}
use Rattle.std.proofs.lemmas.List.{append-nil, drop_all, drop_more, length_push}
use Rattle.std.proofs.lemmas.List.Elements.{filter-append}
use Rattle.trace_code.specs.trace_model.declared.channel.Channel.{Channel}
use Rattle.trace_code.specs.trace_model.declared.channel.Dir.{Dir}
use Rattle.trace_code.specs.trace_model.declared.channel.Dir.TheVariants.{Inward, Outward}
use Rattle.trace_code.specs.trace_model.declared.event.Event.{Event}
use Rattle.trace_code.specs.trace_model.declared.event.Kind.{Kind}
use Rattle.trace_code.specs.trace_model.declared.event.Kind.TheVariants.{Start, End, Reset}
use Rattle.trace_code.specs.trace_model.declared.packet.Packet.{Packet}
use Rattle.trace_code.specs.trace_model.declared.row.Row.{Row}
use Rattle.trace_code.specs.trace_model.declared.trace.Trace.{Trace}
use Rattle.trace_code.specs.trace_model.Clock.{clock}
use Rattle.trace_code.specs.trace_model.Counting.{IsNth}
use Rattle.trace_code.specs.trace_model.Epoch.{epoch, resets}
use Rattle.trace_code.specs.trace_model.Packet.{count, does}
use Rattle.trace_code.specs.trace_model.Recording.{shown}
use Rattle.trace_code.proofs.trace_model_lemmas.CountingLemmas.{nth, nth-below, nth-within, slice_get-append, slice_get-last, slice_get-push}
use Rattle.trace_code.specs.declared.cursor.Cursor.{Cursor}
use Rattle.trace_code.specs.Stands.{Stands}
use Rattle.run_stage.specs.chan_monitor.vidi_bits.Findings.{is_nil}
use Rattle.run_stage.specs.run_model.declared.held.Await.{Await}
use Rattle.run_stage.specs.run_model.declared.held.Held.{Held}
use Rattle.run_stage.specs.run_model.Held.{await_on, awaits, controlled_in, event_in, flies, held_at, held_event, held_if, held_in, held_of, held_reset}
use Rattle.run_stage.specs.run_model.Held.{is_held, next_event_in, packet_place, recorded_next_in, reset_event, same_event, same_kind, waits_in, waits_of}
use Rattle.run_stage.specs.run_model.Held.{waits_reset}
use Rattle.run_stage.specs.run_model.Replay.{done}
use Rattle.run_stage.proofs.run_model_lemmas.EventPlaces.{nth-place, place-is}
use Rattle.replay_run.specs.declared.cursors.Cursors.{Cursors}
use Rattle.replay_run.specs.Behind.{epoch_clock, has_later, AreBehind, IsBehind}
use Rattle.replay_run.specs.Epochs.{before_epoch}
use Rattle.replay_run.specs.Lists.{AreSpare, IsKept}
use Rattle.replay_run.proofs.Epochs.{clock-epoch, epoch-there, nth-whole}
use Rattle.replay_run.proofs.Forward.{last-when, later-when, reset-is, stand, walked, SaysEnd}

-- ---- a list that is made channel by channel
pub walk-on : {Y : Type 0} (g : ℕ × Channel → List Y) (channels : List Channel) (c : ℕ) (x : Channel) (out new all : List Y)
    → c < length channels → x ≡ get_or channels c x → new ≡ out ++ g (c, x)
    → out ++ flat_map g (enumerate_from c (drop c channels)) ≡ all
    → new ++ flat_map g (enumerate_from (c + 1) (drop (c + 1) channels)) ≡ all
walk-on g channels c x out new all l ex e so_far =
    let rest = flat_map g (enumerate_from (c + 1) (drop (c + 1) channels)) in
    let front : drop c channels ≡ x ∷ drop (c + 1) channels =
    drop_more channels c x l ∙ ap (λ y. y ∷ drop (c + 1) channels) (sym ex) in
    ap (λ xs. xs ++ rest) e ∙ append_assoc out (g (c, x)) rest
    ∙ ap (λ xs. out ++ xs) (sym (ap (λ cs. flat_map g (enumerate_from c cs)) front))
    ∙ so_far

pub walk-done : {Y : Type 0} (g : ℕ × Channel → List Y) (channels : List Channel) (c : ℕ) (out all : List Y) → length channels ≤ c
    → out ++ flat_map g (enumerate_from c (drop c channels)) ≡ all → out ≡ all
walk-done g channels c out all l so_far =
    sym (append-nil out) ∙ ap (λ xs. out ++ xs) (sym (ap (λ cs. flat_map g (enumerate_from c cs)) (drop_all c channels l))) ∙ so_far

pub walk-first : {Y : Type 0} (all out : List Y) → out ≡ [] → out ++ all ≡ all
walk-first all out e = ap (λ xs. xs ++ all) e

filter-each : {X Y : Type 0} (f : Y → Bool) (g : X → List Y) (xs : List X) → filter f (flat_map g xs) ≡ flat_map (λ x. filter f (g x)) xs
filter-each f g [] = refl
filter-each f g (x ∷ xs) = filter-append f (g x) (flat_map g xs) ∙ ap (λ ys. filter f (g x) ++ ys) (filter-each f g xs)

-- ---- what an event awaits
awaits-same_from : (a b need : ℕ → ℕ) (k : ℕ) (xs : List Channel) → ((i : ℕ) → i < length xs → a (k + i) ≡ b (k + i))
    → flat_map (λ (c : ℕ × Channel). await_on a need c.0) (enumerate_from k xs)
    ≡ flat_map (λ (c : ℕ × Channel). await_on b need c.0) (enumerate_from k xs)
awaits-same_from a b need k [] same = refl
awaits-same_from a b need k (x ∷ xs) same =
    let z : k + 0 ≡ k = omega arith in
    let here : a k ≡ b k = subst (λ n. a n ≡ b n) z (same 0 (omega arith)) in
    let first : await_on a need k ≡ await_on b need k = ap (λ (n : ℕ). await_on (λ d. n) need k) here in
    ap (λ es. es ++ flat_map (λ (c : ℕ × Channel). await_on a need c.0) (enumerate_from (k + 1) xs)) first
    ∙ ap (λ es. await_on b need k ++ es) (awaits-same_from a b need (k + 1) xs
    (λ i l. (let e : k + suc i ≡ (k + 1) + i = omega arith in subst (λ n. a n ≡ b n) e (same (suc i) (omega (arith, l))))))

-- the completions matter on the channels alone
awaits-same : (channels : List Channel) (a b need : ℕ → ℕ) → ((c : ℕ) → c < length channels → a c ≡ b c)
    → awaits channels a need ≡ awaits channels b need
awaits-same channels a b need same = awaits-same_from a b need 0 channels
    (λ i l. (let e : i ≡ 0 + i = omega arith in subst (λ n. a n ≡ b n) e (same i l)))

pub await-here : (have need : ℕ → ℕ) (c h n : ℕ) (out new : List Await) → h ≡ have c → n ≡ need c
    → new ≡ out ++ await_on (λ d. h) (λ d. n) c → new ≡ out ++ await_on have need c
await-here have need c h n out new eh en e =
    e ∙ ap (λ xs. out ++ xs) (ap (λ (k : ℕ). await_on (λ d. k) (λ d. n) c) eh ∙ ap (λ (k : ℕ). await_on (λ d. have c) (λ d. k) c) en)

-- ---- whether an event is recorded, in the epoch with this number
place-none : (n : ℕ) (packets : List Packet) (kind : Kind) (c k : ℕ) → count kind c packets ≤ k → packet_place packets (event_in n c kind k) ≡ None
place-none n packets kind c k l = by (packet_place packets (event_in n c kind k)) refl
  where
    by : (o : Option ℕ) → packet_place packets (event_in n c kind k) ≡ o → packet_place packets (event_in n c kind k) ≡ None
    by None e = e
    by (Some p) e = absurd (
        let r = place-is (does kind c) 0 packets k p e in
        let b = nth-below (does kind c) packets k r.q r.x r.is in omega (arith, l, b))

place-some : (n : ℕ) (packets : List Packet) (kind : Kind) (c k p : ℕ) (packet : Packet) → IsNth (does kind c) packets k p packet
    → packet_place packets (event_in n c kind k) ≡ Some p
place-some n packets kind c k p packet is = nth-place (does kind c) 0 packets k p p packet is (omega arith)

-- ---- one event
pub event-past : (n : ℕ) (packets : List Packet) (rows : List Row) (kind : Kind) (c : ℕ) (channels : List Channel) (r : Bool) (out : List Held)
    → r ≡ false → ((r ≡ true) ↔ (done rows c < count kind c packets))
    → out ≡ out ++ held_event channels packets rows (event_in n c kind (done rows c))
event-past n packets rows kind c channels r out past says =
    let l : count kind c packets ≤ done rows c = ⊎_elim
    (λ (m : done rows c < count kind c packets). absurd (false≢true (sym past ∙ says.1 m)))
    (λ (m : count kind c packets ≤ done rows c). m)
    (cases_lt (done rows c) (count kind c packets)) in
    sym (append-nil out)
    ∙ ap (λ xs. out ++ xs) (sym (ap (held_at channels packets rows (event_in n c kind (done rows c))) (place-none n packets kind c (done rows c) l)))

pub event-put : (t : Trace) (n : ℕ) (rows : List Row) (kind : Kind) (c : ℕ) (k : Cursor) (channels : List Channel) (have : List ℕ) (r : Bool)
    (e : Event) (list : List Await) (out new : List Held) → IsBehind t n kind c (done rows c) k
    → ((d : ℕ) → d < length channels → slice_index have d ≡ done rows d) → c < length channels → r ≡ true
    → ((r ≡ true) ↔ (done rows c < count kind c (epoch n t.packets)))
    → ((j p : ℕ) (packet : Packet) → Stands k t j → IsNth (does k.kind k.channel) t.packets j p packet
    → list ≡ awaits channels (slice_index have) (epoch_clock t.packets p))
    → e ≡ event_in n c kind (slice_index have c) → new ≡ out ++ held_if e list
    → new ≡ out ++ held_event channels (epoch n t.packets) rows (event_in n c kind (done rows c))
event-put t n rows kind c k channels have r e list out new is counts within up says listed event-is put =
    let here = epoch n t.packets in
    let k-is = done rows c in
    let l = says.0 up in
    let found = nth (does kind c) here k-is l in
    let w = nth-within (does kind c) here k-is found.place found.item found.is in
    let j = count kind c (before_epoch n t.packets) + k-is in
    let p = length (before_epoch n t.packets) + found.place in
    let at : stand t n kind c k-is ≡ j = omega (arith, l) in
    let own = walked t n kind c k-is j p found.item k is (nth-whole kind c n t.packets k-is found.place found.item found.is) in
    let all = listed j p found.item (subst (Stands k t) at is.stands) own
    ∙ ap (awaits channels (slice_index have))
    (λ i d. clock-epoch n t.packets found.place d (epoch-there kind c n k-is t.packets l) (omega (arith, w)) i)
    ∙ awaits-same channels (slice_index have) (done rows) (clock here found.place) counts in
    let event-here : e ≡ event_in n c kind k-is = event-is ∙ ap (event_in n c kind) (counts c within) in
    put ∙ ap (λ xs. out ++ xs) (ap (λ z. held_if z list) event-here ∙ ap (held_if (event_in n c kind k-is)) all
    ∙ sym (ap (held_at channels here rows (event_in n c kind k-is)) (place-some n here kind c k-is found.place found.item found.is)))

-- ---- the reset behind the epoch
module _ (t : Trace) (cursors : Cursors) (have : ℕ → ℕ) (are : AreBehind t have cursors) (r : Bool) (says : SaysEnd t have cursors are r) where
  has-later : r ≡ false → has_later t cursors ≡ true
  has-later f = lt-ltb cursors.epoch (resets t.packets) ((later-when t have cursors are r says).0 (ap not f))

  has-none : r ≡ true → has_later t cursors ≡ false
  has-none e = let last = (last-when t have cursors are r says).0 e in le-ltb cursors.epoch (resets t.packets) (omega (arith, last))

  pub reset-past : (channels : List Channel) (rows : List Row) (out : List Held) → r ≡ true
      → out ≡ out ++ held_reset cursors.epoch (has_later t cursors) channels (epoch cursors.epoch t.packets) rows
  reset-past channels rows out e = sym (append-nil out) ∙ ap (λ xs. out ++ xs)
      (sym (ap (λ b. held_reset cursors.epoch b channels (epoch cursors.epoch t.packets) rows) (has-none e)))

  pub reset-put : (channels : List Channel) (have_list : List ℕ) (rows : List Row) (list : List Await) (event : Event) (out new : List Held) → r ≡ false
      → ((d : ℕ) → d < length channels → slice_index have_list d ≡ done rows d)
      → ((j p : ℕ) (packet : Packet) → Stands cursors.reset t j → IsNth (does cursors.reset.kind cursors.reset.channel) t.packets j p packet
      → list ≡ awaits channels (slice_index have_list) (epoch_clock t.packets p))
      → event ≡ reset_event cursors.epoch → new ≡ out ++ held_if event list
      → new ≡ out ++ held_reset cursors.epoch (has_later t cursors) channels (epoch cursors.epoch t.packets) rows
  reset-put channels have_list rows list event out new f counts listed is put =
      let here = epoch cursors.epoch t.packets in
      let l = (later-when t have cursors are r says).0 (ap not f) in
      let found = nth (does Reset 0) t.packets cursors.epoch l in
      let own : IsNth (does cursors.reset.kind cursors.reset.channel) t.packets cursors.epoch found.place found.item =
      subst (λ (i : Kind). IsNth (does i cursors.reset.channel) t.packets cursors.epoch found.place found.item) (sym are.over.0)
      (subst (λ d. IsNth (does Reset d) t.packets cursors.epoch found.place found.item) (sym are.over.1) found.is) in
      let all : list ≡ awaits channels (done rows) (λ d. count End d here) = listed cursors.epoch found.place found.item are.reset own
      ∙ ap (λ qs. awaits channels (slice_index have_list) (λ d. count End d qs))
      (reset-is t have cursors are cursors.epoch found.place found.item own)
      ∙ awaits-same channels (slice_index have_list) (done rows) (λ d. count End d here) counts in
      put ∙ ap (λ xs. out ++ xs) (ap (λ z. held_if z list) is ∙ ap (held_if (reset_event cursors.epoch)) all
      ∙ sym (ap (λ b. held_reset cursors.epoch b channels here rows) (has-later f)))

-- ---- one channel's held event
one-event : (f : Event → List Held) (e : Event) → flat_map f (e ∷ []) ≡ f e
one-event f e = append-nil (f e)

idle-starts : (rows : List Row) (c : ℕ) → flies rows c ≡ false → shown Start c rows ≡ done rows c + cond (flies rows c) 1 0
    → done rows c ≡ shown Start c rows
idle-starts rows c idle starts =
    let z : cond {A = ℕ} (flies rows c) 1 0 ≡ 0 = ap (λ b. cond {A = ℕ} b 1 0) idle in omega (arith, starts, z)

pub inward-idle : (f : Event → List Held) (n : ℕ) (rows : List Row) (c : ℕ) (out new : List Held) → flies rows c ≡ false
    → shown Start c rows ≡ done rows c + cond (flies rows c) 1 0 → new ≡ out ++ f (event_in n c Start (done rows c))
    → new ≡ out ++ flat_map f (controlled_in n rows c Inward)
inward-idle f n rows c out new idle starts e =
    e ∙ ap (λ xs. out ++ xs) (ap (λ k. f (event_in n c Start k)) (idle-starts rows c idle starts) ∙ sym (one-event f (event_in n c Start (shown Start c rows)))
    ∙ sym (ap (flat_map f) (cond-false (flies rows c) [] (event_in n c Start (shown Start c rows) ∷ []) idle)))

pub inward-flying : (f : Event → List Held) (n : ℕ) (rows : List Row) (c : ℕ) (out : List Held) → flies rows c ≡ true
    → out ≡ out ++ flat_map f (controlled_in n rows c Inward)
inward-flying f n rows c out flying =
    sym (append-nil out)
    ∙ ap (λ xs. out ++ xs) (sym (ap (flat_map f) (cond-true (flies rows c) [] (event_in n c Start (shown Start c rows) ∷ []) flying)))

pub outward-put : (f : Event → List Held) (n : ℕ) (rows : List Row) (c : ℕ) (out new : List Held) → new ≡ out ++ f (event_in n c End (done rows c))
    → new ≡ out ++ flat_map f (controlled_in n rows c Outward)
outward-put f n rows c out new e = e ∙ ap (λ xs. out ++ xs) (sym (one-event f (event_in n c End (done rows c))))

-- ---- one channel's next event
pub next-flying : (n : ℕ) (rows : List Row) (c h : ℕ) → flies rows c ≡ true → h ≡ done rows c → event_in n c End h ≡ next_event_in n rows c
next-flying n rows c h flying e =
    ap (event_in n c End) e ∙ sym (cond-true (flies rows c) (event_in n c End (shown End c rows)) (event_in n c Start (shown Start c rows)) flying)

pub next-idle : (n : ℕ) (rows : List Row) (c h : ℕ) → flies rows c ≡ false → h ≡ done rows c
    → shown Start c rows ≡ done rows c + cond (flies rows c) 1 0 → event_in n c Start h ≡ next_event_in n rows c
next-idle n rows c h idle e starts =
    ap (event_in n c Start) (e ∙ idle-starts rows c idle starts)
    ∙ sym (cond-false (flies rows c) (event_in n c End (shown End c rows)) (event_in n c Start (shown Start c rows)) idle)

-- it has the number of the completions
pub next-known : (n : ℕ) (rows : List Row) (c : ℕ) (e : Event) → e ≡ next_event_in n rows c
    → shown Start c rows ≡ done rows c + cond (flies rows c) 1 0 → e ≡ event_in n c e.kind (done rows c)
next-known n rows c e next starts = by (flies rows c) refl
  where
    by : (b : Bool) → flies rows c ≡ b → e ≡ event_in n c e.kind (done rows c)
    by true f = let here = next ∙ sym (next-flying n rows c (done rows c) f refl) in
        here ∙ ap (λ (k : Kind). event_in n c k (done rows c)) (sym (ap (λ (x : Event). x.kind) here))
    by false f = let here = next ∙ sym (next-idle n rows c (done rows c) f refl starts) in
        here ∙ ap (λ (k : Kind). event_in n c k (done rows c)) (sym (ap (λ (x : Event). x.kind) here))

pub starts-known : (n : ℕ) (rows : List Row) (have : List ℕ) (last : Row) (c : ℕ) → IsKept n rows have last → c < n
    → shown Start c rows ≡ done rows c + cond (flies rows c) 1 0
starts-known n rows have last c kept l = kept.starts c l

-- the events of channel c that are waited for
abbrev pub waits_on : List Held → ℕ → List Packet → List Row → ℕ → List Event
waits_on helds n packets rows c = filter (λ (e : Event). not (is_held helds e)) (recorded_next_in n packets rows c)

-- where it isn't recorded
wait-none : (helds : List Held) (n : ℕ) (packets : List Packet) (rows : List Row) (c : ℕ) (e : Event) → e ≡ next_event_in n rows c
    → packet_place packets e ≡ None → waits_on helds n packets rows c ≡ []
wait-none helds n packets rows c e next place =
    let off : is_some (packet_place packets (next_event_in n rows c)) ≡ false =
    ap (λ (x : Event). is_some (packet_place packets x)) (sym next) ∙ ap is_some place in
    ap (filter (λ (x : Event). not (is_held helds x)))
    (cond-false (is_some (packet_place packets (next_event_in n rows c))) (next_event_in n rows c ∷ []) [] off)

-- where it is
wait-some : (helds : List Held) (n : ℕ) (packets : List Packet) (rows : List Row) (c p : ℕ) (e : Event) → e ≡ next_event_in n rows c
    → packet_place packets e ≡ Some p → waits_on helds n packets rows c ≡ cond (not (is_held helds e)) (e ∷ []) []
wait-some helds n packets rows c p e next place =
    let on : is_some (packet_place packets (next_event_in n rows c)) ≡ true =
    ap (λ (x : Event). is_some (packet_place packets x)) (sym next) ∙ ap is_some place in
    ap (filter (λ (x : Event). not (is_held helds x)))
    (cond-true (is_some (packet_place packets (next_event_in n rows c))) (next_event_in n rows c ∷ []) [] on
    ∙ ap (λ (x : Event). x ∷ []) (sym next))

-- of a channel's next event, which `r` tells whether it is recorded
module _ (n : ℕ) (packets : List Packet) (rows : List Row) (c : ℕ) (e : Event) (r : Bool) (helds : List Held) (out : List Event)
    (event-is : e ≡ event_in n c e.kind (done rows c)) (next : e ≡ next_event_in n rows c)
    (says : (r ≡ true) ↔ (done rows c < count e.kind c packets)) where
  pub wait-past : r ≡ false → out ≡ out ++ waits_on helds n packets rows c
  wait-past past =
      let l : count e.kind c packets ≤ done rows c = ⊎_elim
      (λ (m : done rows c < count e.kind c packets). absurd (false≢true (sym past ∙ says.1 m)))
      (λ (m : count e.kind c packets ≤ done rows c). m)
      (cases_lt (done rows c) (count e.kind c packets)) in
      sym (append-nil out) ∙ ap (λ xs. out ++ xs) (sym (wait-none helds n packets rows c e next
      (ap (packet_place packets) event-is ∙ place-none n packets e.kind c (done rows c) l)))

  wait-here : r ≡ true → waits_on helds n packets rows c ≡ cond (not (is_held helds e)) (e ∷ []) []
  wait-here up =
      let found = nth (does e.kind c) packets (done rows c) (says.0 up) in
      wait-some helds n packets rows c found.place e next (ap (packet_place packets) event-is
      ∙ place-some n packets e.kind c (done rows c) found.place found.item found.is)

  pub wait-held : r ≡ true → is_held helds e ≡ true → out ≡ out ++ waits_on helds n packets rows c
  wait-held up is-held = sym (append-nil out) ∙ ap (λ xs. out ++ xs) (sym (wait-here up
      ∙ cond-false (not (is_held helds e)) (e ∷ []) [] (ap not is-held)))

  pub wait-put : (new : List Event) → r ≡ true → is_held helds e ≡ false → new ≡ out ++ e ∷ [] → new ≡ out ++ waits_on helds n packets rows c
  wait-put new up not-held put = put ∙ ap (λ xs. out ++ xs) (sym (wait-here up
      ∙ cond-true (not (is_held helds e)) (e ∷ []) [] (ap not not-held)))

waits-each : (helds : List Held) (n : ℕ) (packets : List Packet) (rows : List Row) (channels : List Channel)
    → flat_map (λ (d : ℕ × Channel). waits_on helds n packets rows d.0) (enumerate_from 0 channels)
    ≡ filter (λ (e : Event). not (is_held helds e)) (flat_map (λ (d : ℕ × Channel). recorded_next_in n packets rows d.0) (enumerate_from 0 channels))
waits-each helds n packets rows channels = sym (filter-each (λ (e : Event). not (is_held helds e))
    (λ (d : ℕ × Channel). recorded_next_in n packets rows d.0) (enumerate_from 0 channels))

-- ---- the reset among the others
-- it is none of the channels' events
other-kind : (n c i m : ℕ) (kind : Kind) → same_kind kind Reset ≡ false → same_event (event_in n c kind i) (reset_event m) ≡ false
other-kind n c i m kind f =
    ap (λ b. (n == m) && ((c == 0) && (b && (i == m)))) f ∙ ap (λ b. (n == m) && b) (and-none (c == 0)) ∙ and-none (n == m)
  where
    and-none : (b : Bool) → (b && false) ≡ false
    and-none true = refl
    and-none false = refl

kind-other : (n c i m : ℕ) (kind : Kind) → same_kind Reset kind ≡ false → same_event (reset_event m) (event_in n c kind i) ≡ false
kind-other n c i m kind f =
    ap (λ b. (m == n) && ((0 == c) && (b && (m == i)))) f ∙ ap (λ b. (m == n) && b) (and-none (0 == c)) ∙ and-none (m == n)
  where
    and-none : (b : Bool) → (b && false) ≡ false
    and-none true = refl
    and-none false = refl

held-append : (xs ys : List Held) (e : Event) → is_held (xs ++ ys) e ≡ (is_held xs e || is_held ys e)
held-append [] ys e = refl
held-append (x ∷ xs) ys e = by (same_event x.event e) (held-append xs ys e)
  where
    by : (b : Bool) → is_held (xs ++ ys) e ≡ (is_held xs e || is_held ys e) → (b || is_held (xs ++ ys) e) ≡ ((b || is_held xs e) || is_held ys e)
    by true on = refl
    by false on = on

none-held : {X : Type 0} (g : X → List Held) (e : Event) (xs : List X) → ((x : X) → is_held (g x) e ≡ false) → is_held (flat_map g xs) e ≡ false
none-held g e [] none = refl
none-held g e (x ∷ xs) none = held-append (g x) (flat_map g xs) e ∙ ap (λ b. b || is_held (flat_map g xs) e) (none x) ∙ none-held g e xs none

one-held : (z : Event) (list : List Await) (e : Event) → same_event z e ≡ false → is_held (held_if z list) e ≡ false
one-held z [] e f = refl
one-held z (a ∷ list) e f = ap (λ b. b || false) f

at-held : (channels : List Channel) (packets : List Packet) (rows : List Row) (z e : Event) (o : Option ℕ) → same_event z e ≡ false
    → is_held (held_at channels packets rows z o) e ≡ false
at-held channels packets rows z e None f = refl
at-held channels packets rows z e (Some p) f = one-held z (awaits channels (done rows) (clock packets p)) e f

no-reset : (n m : ℕ) (channels : List Channel) (packets : List Packet) (rows : List Row) → is_held (held_in n channels packets rows) (reset_event m) ≡ false
no-reset n m channels packets rows = none-held (λ (d : ℕ × Channel). flat_map (held_event channels packets rows) (controlled_in n rows d.0 d.1.dir))
    (reset_event m) (enumerate_from 0 channels) (λ d. by d.0 d.1.dir (flies rows d.0) refl)
  where
    alone : (z : Event) → same_event z (reset_event m) ≡ false → is_held (flat_map (held_event channels packets rows) (z ∷ [])) (reset_event m) ≡ false
    alone z f = ap (λ hs. is_held hs (reset_event m)) (one-event (held_event channels packets rows) z)
        ∙ at-held channels packets rows z (reset_event m) (packet_place packets z) f

    by : (c : ℕ) (dir : Dir) (b : Bool) → flies rows c ≡ b
        → is_held (flat_map (held_event channels packets rows) (controlled_in n rows c dir)) (reset_event m) ≡ false
    by c Inward true f = ap (λ b. is_held (flat_map (held_event channels packets rows) (cond b [] (event_in n c Start (shown Start c rows) ∷ []))) (reset_event m)) f
    by c Inward false f = ap (λ b. is_held (flat_map (held_event channels packets rows) (cond b [] (event_in n c Start (shown Start c rows) ∷ []))) (reset_event m)) f
        ∙ alone (event_in n c Start (shown Start c rows)) (other-kind n c (shown Start c rows) m Start refl)
    by c Outward b f = alone (event_in n c End (shown End c rows)) (other-kind n c (shown End c rows) m End refl)

-- whether the reset is held back is told by the list of all that is
reset-held : (n : ℕ) (more : Bool) (channels : List Channel) (packets : List Packet) (rows : List Row)
    → is_held (held_of n more channels packets rows) (reset_event n) ≡ not (is_nil (held_reset n more channels packets rows))
reset-held n more channels packets rows =
    held-append (held_in n channels packets rows) (held_reset n more channels packets rows) (reset_event n)
    ∙ ap (λ b. b || is_held (held_reset n more channels packets rows) (reset_event n)) (no-reset n n channels packets rows) ∙ by more
  where
    itself : (list : List Await) → is_held (held_if (reset_event n) list) (reset_event n) ≡ not (is_nil (held_if (reset_event n) list))
    itself [] = refl
    itself (a ∷ list) = ap (λ b. (b && (true && (true && b))) || false) (eq-eqb n n refl)

    by : (b : Bool) → is_held (held_reset n b channels packets rows) (reset_event n) ≡ not (is_nil (held_reset n b channels packets rows))
    by true = itself (awaits channels (done rows) (λ c. count End c packets))
    by false = refl

-- the others aren't it
same-waits : (n : ℕ) (more : Bool) (channels : List Channel) (packets : List Packet) (rows : List Row) (c : ℕ)
    → waits_on (held_of n more channels packets rows) n packets rows c ≡ waits_on (held_in n channels packets rows) n packets rows c
same-waits n more channels packets rows c = by (is_some (packet_place packets (next_event_in n rows c)))
  where
    H : List Held
    H = held_in n channels packets rows

    none : (b : Bool) (kind : Kind) (i : ℕ) → same_kind Reset kind ≡ false → is_held (held_reset n b channels packets rows) (event_in n c kind i) ≡ false
    none true kind i f = one-held (reset_event n) (awaits channels (done rows) (λ c. count End c packets)) (event_in n c kind i) (kind-other n c i n kind f)
    none false kind i f = refl

    or-none : (b : Bool) → (b || false) ≡ b
    or-none true = refl
    or-none false = refl

    same : (kind : Kind) (i : ℕ) → same_kind Reset kind ≡ false → is_held (held_of n more channels packets rows) (event_in n c kind i) ≡ is_held H (event_in n c kind i)
    same kind i f = held-append H (held_reset n more channels packets rows) (event_in n c kind i)
        ∙ ap (λ b. is_held H (event_in n c kind i) || b) (none more kind i f) ∙ or-none (is_held H (event_in n c kind i))

    next : (b : Bool) → is_held (held_of n more channels packets rows) (cond b (event_in n c End (shown End c rows)) (event_in n c Start (shown Start c rows)))
        ≡ is_held H (cond b (event_in n c End (shown End c rows)) (event_in n c Start (shown Start c rows)))
    next true = same End (shown End c rows) refl
    next false = same Start (shown Start c rows) refl

    by : (b : Bool) → filter (λ (e : Event). not (is_held (held_of n more channels packets rows) e)) (cond b (next_event_in n rows c ∷ []) [])
        ≡ filter (λ (e : Event). not (is_held H e)) (cond b (next_event_in n rows c ∷ []) [])
    by true = ap (λ b. cond (not b) (next_event_in n rows c ∷ []) []) (next (flies rows c))
    by false = refl

-- all that is waited for but the reset
pub waits-plain : (helds : List Held) (n : ℕ) (more : Bool) (packets : List Packet) (rows : List Row) (channels : List Channel)
    → helds ≡ held_of n more channels packets rows
    → flat_map (λ (d : ℕ × Channel). waits_on helds n packets rows d.0) (enumerate_from 0 channels) ≡ waits_in n channels packets rows
waits-plain helds n more packets rows channels is =
    ap (λ (hs : List Held). flat_map (λ (d : ℕ × Channel). waits_on hs n packets rows d.0) (enumerate_from 0 channels)) is
    ∙ ap (λ (g : ℕ → List Event). flat_map (λ (d : ℕ × Channel). g d.0) (enumerate_from 0 channels))
    (λ i c. same-waits n more channels packets rows c i)
    ∙ waits-each (held_in n channels packets rows) n packets rows channels

-- the reset is waited for where it isn't held back
module _ (t : Trace) (cursors : Cursors) (have : ℕ → ℕ) (are : AreBehind t have cursors) (r : Bool) (says : SaysEnd t have cursors are r)
    (channels : List Channel) (rows : List Row) (helds : List Held) (out : List Event)
    (is : helds ≡ held_of cursors.epoch (has_later t cursors) channels (epoch cursors.epoch t.packets) rows) where
  abbrev Reset-waits : Bool → List Event
  Reset-waits more = waits_reset cursors.epoch more channels (epoch cursors.epoch t.packets) rows

  pub wait-last : r ≡ true → out ≡ out ++ Reset-waits (has_later t cursors)
  wait-last e = sym (append-nil out) ∙ ap (λ xs. out ++ xs) (sym (ap Reset-waits (has-none t cursors have are r says e)))

  held-here : is_held helds (reset_event cursors.epoch)
      ≡ not (is_nil (held_reset cursors.epoch (has_later t cursors) channels (epoch cursors.epoch t.packets) rows))
  held-here = ap (λ (hs : List Held). is_held hs (reset_event cursors.epoch)) is
      ∙ reset-held cursors.epoch (has_later t cursors) channels (epoch cursors.epoch t.packets) rows

  free : (b h : Bool) → h ≡ not b → h ≡ false → b ≡ true
  free true h e f = refl
  free false h e f = absurd (false≢true (sym f ∙ e))

  taken : (b h : Bool) → h ≡ not b → h ≡ true → b ≡ false
  taken true h e f = absurd (false≢true (sym e ∙ f))
  taken false h e f = refl

  pub wait-reset : (new : List Event) (event : Event) → r ≡ false → event ≡ reset_event cursors.epoch → is_held helds event ≡ false
      → new ≡ out ++ event ∷ [] → new ≡ out ++ Reset-waits (has_later t cursors)
  wait-reset new event f event-is down put =
      let nil = free (is_nil (held_reset cursors.epoch (has_later t cursors) channels (epoch cursors.epoch t.packets) rows))
      (is_held helds (reset_event cursors.epoch)) held-here (ap (is_held helds) (sym event-is) ∙ down) in
      put ∙ ap (λ xs. out ++ xs) (ap (λ (x : Event). x ∷ []) event-is
      ∙ sym (ap (λ b. cond (b && is_nil (held_reset cursors.epoch (has_later t cursors) channels (epoch cursors.epoch t.packets) rows))
      (reset_event cursors.epoch ∷ []) []) (has-later t cursors have are r says f) ∙ ap (λ b. cond b (reset_event cursors.epoch ∷ []) []) nil))

  pub reset-waits_not : (event : Event) → r ≡ false → event ≡ reset_event cursors.epoch → is_held helds event ≡ true
      → out ≡ out ++ Reset-waits (has_later t cursors)
  reset-waits_not event f event-is up =
      let nil = taken (is_nil (held_reset cursors.epoch (has_later t cursors) channels (epoch cursors.epoch t.packets) rows))
      (is_held helds (reset_event cursors.epoch)) held-here (ap (is_held helds) (sym event-is) ∙ up) in
      sym (append-nil out) ∙ ap (λ xs. out ++ xs)
      (sym (ap (λ b. cond (b && is_nil (held_reset cursors.epoch (has_later t cursors) channels (epoch cursors.epoch t.packets) rows))
      (reset_event cursors.epoch ∷ []) []) (has-later t cursors have are r says f) ∙ ap (λ b. cond b (reset_event cursors.epoch ∷ []) []) nil))

-- ---- lists to be filled
pub spare-more : (n k : ℕ) (spare new : List (Vec Await)) (list : Vec Await) → new ≡ spare ++ list ∷ [] → AreSpare n k spare
    → list.items ≡ [] → vec_len list + n ≤ vec_capacity list → AreSpare n (k + 1) new
spare-more n k spare new list e are empty room = record {
  enough = let a = ap length e ∙ length_push spare list in let b = are.enough in omega (arith, a, b);
  each = λ i x at. ⊎_elim
      (λ (a : (i < length spare) × (slice_get spare i ≡ Some x)). are.each i x a.1)
      (λ (a : (i ≡ length spare) × (list ≡ x)). subst (λ (y : Vec Await). (y.items ≡ []) × (vec_len y + n ≤ vec_capacity y)) a.1 (empty, room))
      (slice_get-push spare list x i (ap (λ ys. slice_get ys i) (sym e) ∙ at));
}

pub spare-less : (n k : ℕ) (spare rest : List (Vec Await)) (list : Vec Await) → spare ≡ rest ++ list ∷ [] → AreSpare n (k + 1) spare
    → AreSpare n k rest × (list.items ≡ []) × (vec_len list + n ≤ vec_capacity list)
spare-less n k spare rest list e are =
    let last = are.each (length rest) list (ap (λ ys. slice_get ys (length rest)) e ∙ slice_get-last rest list) in (
      record {
        enough = let a = ap length e ∙ length_push rest list in let b = are.enough in omega (arith, a, b);
        each = λ i x at. are.each i x (ap (λ ys. slice_get ys i) e ∙ slice_get-append rest (list ∷ []) i x at);
      },
      last.0,
      last.1,
    )
