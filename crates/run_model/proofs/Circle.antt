-- No circle: the first packet that a replay hasn't shown whole waits for no later one.
use Rattle.std.proofs.Common.{◌≡◌, ◌⊎◌, ℕ, zero, suc, ◌+◌, ◌<◌, ◌≤◌, ◌&&◌, ◌==◌, Bool, true, false, not, cond, List, [], ◌∷◌, ◌++◌, Option}
use Rattle.std.proofs.Common.{Some, None, All, length, take, get_or, slice_get, inl, inr, ⊎_elim, refl, ap, sym, subst, ◌∙◌, arith}
use Rattle.std.specs.Prelude.{Contains, is_some}
use Rattle.std.specs.List.{enumerate_from, filter, flat_map, list_any}
use Rattle.std.proofs.lemmas.Bool.{cases_Bool, cases_lt, and_parts, false≢true, eqb-true, cond-true, cond-false, or_from}
use Rattle.std.proofs.lemmas.List.{take_all}
use Rattle.std.proofs.lemmas.List.Elements.{All-nil, All-cons, All-append, All-head, All-tail}
use Rattle.std.proofs.lemmas.Option.{get_or_from_slice_get, slice_get_within, same_Some}
use Rattle.chan_map.specs.vidi_bits.Number.{has}
use Rattle.chan_map.specs.trace_model.declared.channel.Channel.{Channel}
use Rattle.chan_map.specs.trace_model.declared.event.Event.{Event}
use Rattle.chan_map.specs.trace_model.declared.event.Kind.{Kind}
use Rattle.chan_map.specs.trace_model.declared.event.Kind.TheVariants.{Start, End, Reset}
use Rattle.chan_map.specs.trace_model.declared.packet.Packet.{Packet}
use Rattle.chan_map.specs.trace_model.declared.row.Row.{Row}
use Rattle.chan_map.specs.trace_model.Clock.{clock}
use Rattle.chan_map.specs.trace_model.Counting.{IsNth}
use Rattle.chan_map.specs.trace_model.Packet.{does, count}
use Rattle.chan_map.specs.trace_model.Recording.{shown}
use Rattle.chan_map.specs.trace_model.Epoch.{resets}
use Rattle.chan_map.specs.trace_model.Trace.{Alternates, IsWellFormed}
use Rattle.net_design.specs.declared.design.Design.{Design}
use Rattle.chan_map.specs.declared.pins.Map.{Map}
use Rattle.chan_map.proofs.trace_model_lemmas.CountingLemmas.{count-suc, count-suc_yes, count-suc_no}
use Rattle.chan_map.proofs.trace_model_lemmas.FlightLemmas.{balanced}
use Rattle.chan_map.proofs.trace_model_lemmas.RowLaws.{counted}
use Rattle.run_model.specs.declared.held.Await.{Await}
use Rattle.run_model.specs.declared.held.Held.{Held}
use Rattle.run_model.specs.Held.{packet_place, places_from, flies, awaits, controlled}
use Rattle.run_model.specs.Held.{event, held, held_if, held_at, held_event, next_event}
use Rattle.run_model.specs.Held.{recorded_next, same_kind, same_event, is_held, waits}
use Rattle.run_model.specs.Laws.{IsShown, IsFirstOpen, IsIn, IsFree, NoCircle}
use Rattle.run_model.specs.Played.{AreStable}
use Rattle.run_model.specs.Replay.{done, HasEnded, IsReplayStretch}
use Rattle.run_model.proofs.EventPlaces.{awaits-none, nth-place}
use Rattle.run_model.proofs.OneEpoch.{none-reset, one-epoch}
use Rattle.run_model.proofs.PinLemmas.{all-at}
use Rattle.run_model.proofs.ReplayLaws.{replay-keeps}
use Rattle.run_model.proofs.RowParts.{channel-at}
use Rattle.run_model.proofs.Stays.{keeps-in-flight, flying-flag}

-- ---- membership, by places
abbrev Has : {X : Type 0} → List X → X → Type 0
Has xs x = (k : ℕ) × (slice_get xs k ≡ Some x)

contains : {X : Type 0} (xs : List X) (x : X) → Has xs x → Contains xs x
contains xs x h = (h.0, slice_get_within xs h.0 x h.1, get_or_from_slice_get xs h.0 x x h.1)

has-right : {X : Type 0} (xs ys : List X) (x : X) → Has ys x → Has (xs ++ ys) x
has-right [] ys x h = h
has-right (z ∷ zs) ys x h = let r = has-right zs ys x h in (suc r.0, r.1)

has-left : {X : Type 0} (xs ys : List X) (x : X) (k : ℕ) → slice_get xs k ≡ Some x → Has (xs ++ ys) x
has-left [] ys x k e = absurd (cc)
has-left (z ∷ zs) ys x zero e = (0, e)
has-left (z ∷ zs) ys x (suc k) e = let r = has-left zs ys x k e in (suc r.0, r.1)

has-flat_map : {X Y : Type 0} (f : X → List Y) (xs : List X) (k : ℕ) (x : X) (y : Y) → slice_get xs k ≡ Some x → Has (f x) y
    → Has (flat_map f xs) y
has-flat_map f [] k x y e h = absurd (cc)
has-flat_map f (z ∷ zs) zero x y e h =
    let same : z ≡ x = same_Some z x e in
    let h' = subst (λ w. Has (f w) y) (sym same) h in
    has-left (f z) (flat_map f zs) y h'.0 h'.1
has-flat_map f (z ∷ zs) (suc k) x y e h = has-right (f z) (flat_map f zs) y (has-flat_map f zs k x y e h)

has-filter : {X : Type 0} (test : X → Bool) (xs : List X) (k : ℕ) (x : X) → slice_get xs k ≡ Some x → test x ≡ true → Has (filter test xs) x
has-filter test [] k x e h = absurd (cc)
has-filter test (z ∷ zs) zero x e h =
    let same : z ≡ x = same_Some z x e in
    (0, ap (λ b. slice_get (cond b (z ∷ filter test zs) (filter test zs)) 0) (ap test same ∙ h) ∙ ap Some same)
has-filter test (z ∷ zs) (suc k) x e h = more (test z) (has-filter test zs k x e h)
  where
    more : (b : Bool) → Has (filter test zs) x → Has (cond b (z ∷ filter test zs) (filter test zs)) x
    more true r = (suc r.0, r.1)
    more false r = r

has-enumerated : {X : Type 0} (n : ℕ) (xs : List X) (k j : ℕ) (x : X) → slice_get xs k ≡ Some x → j ≡ n + k
    → slice_get (enumerate_from n xs) k ≡ Some (j, x)
has-enumerated n [] k j x e p = absurd (cc)
has-enumerated n (z ∷ zs) zero j x e p =
    let same : z ≡ x = same_Some z x e in let place : n ≡ j = omega (arith, p) in
    ap (λ m. Some (m, z)) place ∙ ap (λ w. Some (j, w)) same
has-enumerated n (z ∷ zs) (suc k) j x e p = has-enumerated (n + 1) zs k j x e (omega (arith, p))

all-flat_map : {X Y : Type 0} (P : Y → Type 0) (f : X → List Y) (xs : List X) → ((x : X) → All P (f x)) → All P (flat_map f xs)
all-flat_map P f [] h = All-nil P
all-flat_map P f (x ∷ xs) h = All-append P (f x) (flat_map f xs) (h x) (all-flat_map P f xs h)

any-none : {X : Type 0} (test : X → Bool) (xs : List X) → All (λ x. test x ≡ false) xs → list_any test xs ≡ false
any-none test [] h = refl
any-none test (x ∷ xs) h = or_from (test x) (list_any test xs) (All-head (λ y. test y ≡ false) x xs h)
    (any-none test xs (All-tail (λ y. test y ≡ false) x xs h))

-- ---- which packets are shown
record Late (n : ℕ) (packets : List Packet) (rows : List Row) (p : ℕ) (packet : Packet) : Type 0 where
  kind : Kind
  c : ℕ
  within : c < n
  has-it : does kind c packet ≡ true
  late : shown kind c rows ≤ count kind c (take p packets)

abbrev ShownOn : List Packet → List Row → ℕ → Packet → ℕ → Type 0
ShownOn packets rows p packet c = (kind : Kind) → does kind c packet ≡ true → count kind c (take p packets) < shown kind c rows

module _ (n : ℕ) (packets : List Packet) (rows : List Row) (p : ℕ) (packet : Packet) where
  one : (kind : Kind) (c : ℕ) → c < n
      → (does kind c packet ≡ true → count kind c (take p packets) < shown kind c rows) ⊎ Late n packets rows p packet
  one kind c l = ⊎_elim
      (λ (t : does kind c packet ≡ true). ⊎_elim
      (λ (m : count kind c (take p packets) < shown kind c rows). inl (λ e. m))
      (λ (m : shown kind c rows ≤ count kind c (take p packets)).
      inr (record { kind = kind; c = c; within = l; has-it = t; late = m }))
      (cases_lt (count kind c (take p packets)) (shown kind c rows)))
      (λ (f : does kind c packet ≡ false). inl (λ e. absurd (false≢true (sym f ∙ e))))
      (cases_Bool (does kind c packet))

  all-kinds : (c : ℕ) → (does Start c packet ≡ true → count Start c (take p packets) < shown Start c rows)
      → (does End c packet ≡ true → count End c (take p packets) < shown End c rows)
      → (does Reset c packet ≡ true → count Reset c (take p packets) < shown Reset c rows) → ShownOn packets rows p packet c
  all-kinds c s e r Start h = s h
  all-kinds c s e r End h = e h
  all-kinds c s e r Reset h = r h

  on-channel : (c : ℕ) → c < n → ShownOn packets rows p packet c ⊎ Late n packets rows p packet
  on-channel c l = ⊎_elim
      (λ (s : does Start c packet ≡ true → count Start c (take p packets) < shown Start c rows). ⊎_elim
      (λ (e : does End c packet ≡ true → count End c (take p packets) < shown End c rows). ⊎_elim
      (λ (r : does Reset c packet ≡ true → count Reset c (take p packets) < shown Reset c rows). inl (all-kinds c s e r))
      (λ (late : Late n packets rows p packet). inr late)
      (one Reset c l))
      (λ (late : Late n packets rows p packet). inr late)
      (one End c l))
      (λ (late : Late n packets rows p packet). inr late)
      (one Start c l)

  below : (k : ℕ) → k ≤ n → ((c : ℕ) → c < k → ShownOn packets rows p packet c) ⊎ Late n packets rows p packet
  below zero l = inl (λ c m. absurd (omega arith))
  below (suc k) l = ⊎_elim
      (λ (before : (c : ℕ) → c < k → ShownOn packets rows p packet c). ⊎_elim
      (λ (here : ShownOn packets rows p packet k). inl (λ c m. ⊎_elim (λ (b : c < k). before c b)
      (λ (b : k ≤ c). (let same : k ≡ c = omega arith in subst (ShownOn packets rows p packet) same here)) (cases_lt c k)))
      (λ (late : Late n packets rows p packet). inr late)
      (on-channel k (omega arith)))
      (λ (late : Late n packets rows p packet). inr late)
      (below k (omega arith))

pub record LatePacket (n : ℕ) (packets : List Packet) (rows : List Row) (p : ℕ) : Type 0 where
  packet : Packet
  at : slice_get packets p ≡ Some packet
  is : Late n packets rows p packet

shown-or-late : (n : ℕ) (packets : List Packet) (rows : List Row) (p : ℕ) → p < length packets
    → IsShown n packets rows p ⊎ LatePacket n packets rows p
shown-or-late n packets rows p l =
    let x = channel-at packets p l in
    ⊎_elim
    (λ (all : (c : ℕ) → c < n → ShownOn packets rows p x.0 c).
    inl (λ kind c packet m at h. (let same : x.0 ≡ packet = same_Some x.0 packet (sym x.1 ∙ at) in
    all c m kind (ap (does kind c) same ∙ h))))
    (λ (late : Late n packets rows p x.0). inr (record { packet = x.0; at = x.1; is = late }))
    (below n packets rows p x.0 n (omega arith))

not-shown : (n : ℕ) (packets : List Packet) (rows : List Row) (p : ℕ) → LatePacket n packets rows p → IsShown n packets rows p → ⊥
not-shown n packets rows p late is =
    let m = is late.is.kind late.is.c late.packet late.is.within late.at late.is.has-it in
    let l = late.is.late in
    absurd (omega arith)

-- what is recorded before a packet all of whose forerunners are shown has been shown
enough : (n : ℕ) (packets : List Packet) (rows : List Row) (p : ℕ) → p ≤ length packets → ((q : ℕ) → q < p → IsShown n packets rows q)
    → (kind : Kind) (c : ℕ) → c < n → count kind c (take p packets) ≤ shown kind c rows
enough n packets rows zero l all kind c m = omega arith
enough n packets rows (suc q) l all kind c m =
    let x = channel-at packets q (omega arith) in
    let before = enough n packets rows q (omega arith) (λ r k. all r (omega arith)) kind c m in
    ⊎_elim
    (λ (t : does kind c x.0 ≡ true). (let more = count-suc_yes (does kind c) packets q x.0 x.1 t in
    let here = all q (omega arith) kind c x.0 m x.1 t in omega (arith, more, here)))
    (λ (f : does kind c x.0 ≡ false). (let more = count-suc_no (does kind c) packets q x.0 x.1 f in omega (arith, more, before)))
    (cases_Bool (does kind c x.0))

-- the first packet that isn't shown, up to packet p
first-open : (n : ℕ) (packets : List Packet) (rows : List Row) (p : ℕ) → p ≤ length packets
    → ((q : ℕ) → q < p → IsShown n packets rows q) ⊎ ((q : ℕ) × IsFirstOpen n packets rows q)
first-open n packets rows zero l = inl (λ q m. absurd (omega arith))
first-open n packets rows (suc k) l = ⊎_elim
    (λ (all : (q : ℕ) → q < k → IsShown n packets rows q). ⊎_elim
    (λ (here : IsShown n packets rows k). inl (λ q m. ⊎_elim (λ (b : q < k). all q b)
    (λ (b : k ≤ q). (let same : k ≡ q = omega arith in subst (IsShown n packets rows) same here)) (cases_lt q k)))
    (λ (late : LatePacket n packets rows k).
    inr (k, record { within = omega arith; before = all; unshown = not-shown n packets rows k late }))
    (shown-or-late n packets rows k (omega arith)))
    (λ (found : (q : ℕ) × IsFirstOpen n packets rows q). inr found)
    (first-open n packets rows k (omega arith))

some-open : (n : ℕ) (packets : List Packet) (rows : List Row) → (HasEnded n packets rows → ⊥) → (p : ℕ) × IsFirstOpen n packets rows p
some-open n packets rows open-end = ⊎_elim
    (λ (all : (q : ℕ) → q < length packets → IsShown n packets rows q).
    absurd (open-end (λ kind c l. (let e = enough n packets rows (length packets) (omega arith) all kind c l in
    subst (λ ps. count kind c ps ≤ shown kind c rows) (take_all (length packets) packets (omega arith)) e))))
    (λ (found : (p : ℕ) × IsFirstOpen n packets rows p). found)
    (first-open n packets rows (length packets) (omega arith))

-- ---- nothing of it is held back
held-if-free : (P : Held → Type 0) (e : Event) (waited : List Await) → ((a : Await) (rest : List Await) → waited ≡ a ∷ rest
    → P (record { event = e; awaits = a ∷ rest }))
    → All P (held_if e waited)
held-if-free P e [] h = All-nil P
held-if-free P e (a ∷ rest) h = All-cons P (record { event = e; awaits = a ∷ rest }) [] (h a rest refl) (All-nil P)

module _ (channels : List Channel) (packets : List Packet) (rows : List Row) (p : ℕ) (first : IsFirstOpen
    (length channels) packets rows p) where
  abbrev Free : Held → Type 0
  Free h = IsIn packets p h.event → ⊥

  nothing-awaited : awaits channels (done rows) (clock packets p) ≡ []
  nothing-awaited = awaits-none channels (done rows) (clock packets p) 0 (λ i l.
      (let w = first.within in
      enough (length channels) packets rows p (omega arith) first.before End (0 + i) (omega (arith, l))))

  at-free : (e : Event) (o : Option ℕ) → packet_place packets e ≡ o → All Free (held_at channels packets rows e o)
  at-free e None is = All-nil Free
  at-free e (Some q) is = held-if-free Free e (awaits channels (done rows) (clock packets q)) (λ a rest is-cons in-p.
      (let same : q ≡ p = same_Some q p (sym is ∙ in-p) in
      let none : awaits channels (done rows) (clock packets q) ≡ [] = ap (λ k. awaits channels (done rows) (clock packets k)) same
      ∙ nothing-awaited
      in clash a rest (sym is-cons ∙ none)))
    where
      clash : (a : Await) (rest : List Await) → a ∷ rest ≡ [] → ⊥
      clash a rest e = cc

  all-free : All Free (held channels packets rows)
  all-free = all-flat_map Free (λ (c : ℕ × Channel). flat_map (held_event channels packets rows) (controlled rows c.0 c.1.dir))
      (enumerate_from 0 channels) (λ c. all-flat_map Free (held_event channels packets rows) (controlled rows c.0 c.1.dir)
      (λ e. at-free e (packet_place packets e) refl))

  same-event-is : (a b : Event) → same_event a b ≡ true → packet_place packets a ≡ packet_place packets b
  same-event-is a b h =
      let e = and_parts (a.epoch == b.epoch) ((a.channel == b.channel) && (same_kind a.kind b.kind && (a.index == b.index))) h in
      let x = and_parts (a.channel == b.channel) (same_kind a.kind b.kind && (a.index == b.index)) e.1 in
      let y = and_parts (same_kind a.kind b.kind) (a.index == b.index) x.1 in
      let c = eqb-true a.channel b.channel x.0 in
      let i = eqb-true a.index b.index y.1 in
      let k = kinds a.kind b.kind y.0 in
      ap (λ n. slice_get (places_from (does a.kind n) 0 packets) a.index) c
      ∙ ap (λ n. slice_get (places_from (does n b.channel) 0 packets) a.index) k
      ∙ ap (slice_get (places_from (does b.kind b.channel) 0 packets)) i
    where
      kinds : (a b : Kind) → same_kind a b ≡ true → a ≡ b
      kinds Start Start h = refl
      kinds End End h = refl
      kinds Reset Reset h = refl
      kinds a b h = absurd (false≢true h)

  not-held : (e : Event) → IsIn packets p e → is_held (held channels packets rows) e ≡ false
  not-held e in-p = any-none (λ (h : Held). same_event h.event e) (held channels packets rows) (λ k d l.
      (let free = all-free k d l in
      ⊎_elim
      (λ (t : same_event (get_or (held channels packets rows) k d).event e ≡ true).
      absurd (free (same-event-is (get_or (held channels packets rows) k d).event e t ∙ in-p)))
      (λ (f : same_event (get_or (held channels packets rows) k d).event e ≡ false). f)
      (cases_Bool (same_event (get_or (held channels packets rows) k d).event e))))

  waiting : (c : ℕ) → c < length channels → IsIn packets p (next_event rows c) → IsFree channels packets rows p
  waiting c l in-p =
      let e = next_event rows c in
      let x = channel-at channels c l in
      let some : is_some (packet_place packets e) ≡ true = ap is_some in-p in
      let listed : Has (recorded_next packets rows c) e =
      (0, ap (λ b. slice_get (cond b (e ∷ []) []) 0) some) in
      let next = has-flat_map (λ (d : ℕ × Channel). recorded_next packets rows d.0) (enumerate_from 0 channels) c (c, x.0) e
      (has-enumerated 0 channels c c x.0 x.1 (omega arith)) listed in
      let kept = has-filter (λ (e : Event). not (is_held (held channels packets rows) e))
      (flat_map (λ (d : ℕ × Channel). recorded_next packets rows d.0) (enumerate_from 0 channels)) next.0 e next.1
      (ap not (not-held e in-p)) in
      record { free = all-free; event = e; is_in = in-p; waiting = contains (waits channels packets rows) e kept }

-- ---- its late event's channel waits for it
in-flight-bit : (b : Bool) → b ≡ true → cond {A = ℕ} b 1 0 ≡ 1
in-flight-bit true h = refl
in-flight-bit false h = absurd (false≢true h)

bit-of : (b : Bool) → 0 < cond {A = ℕ} b 1 0 → b ≡ true
bit-of true l = refl
bit-of false l = absurd (omega arith)

module _ (channels : List Channel) (packets : List Packet) (rows : List Row) (none : All (λ (q : Packet). q.reset ≡ false) packets)
    (alternate : Alternates packets) (p : ℕ) (first : IsFirstOpen (length channels) packets rows p)
    (balance : (c : ℕ) → shown Start c rows ≡ shown End c rows + cond (flies rows c) 1 0) where
  start-in : (c : ℕ) (packet : Packet) → slice_get packets p ≡ Some packet → has packet.starts c ≡ true → flies rows c ≡ false
      → shown Start c rows ≡ count Start c (take p packets) → IsIn packets p (next_event rows c)
  start-in c packet at starts idle index =
      let is : IsNth (does Start c) packets (shown Start c rows) p packet = record { at = at; passes = starts; before = sym index } in
      ap (packet_place packets) (cond-false (flies rows c) (event c End (shown End c rows)) (event c Start (shown Start c rows)) idle)
      ∙ nth-place (does Start c) 0 packets (shown Start c rows) p p packet is (omega arith)

  end-in : (c : ℕ) (packet : Packet) → slice_get packets p ≡ Some packet → has packet.ends c ≡ true → flies rows c ≡ true
      → shown End c rows ≡ count End c (take p packets) → IsIn packets p (next_event rows c)
  end-in c packet at ends flying index =
      let is : IsNth (does End c) packets (shown End c rows) p packet = record { at = at; passes = ends; before = sym index } in
      ap (packet_place packets) (cond-true (flies rows c) (event c End (shown End c rows)) (event c Start (shown Start c rows)) flying)
      ∙ nth-place (does End c) 0 packets (shown End c rows) p p packet is (omega arith)

  late-in : (kind : Kind) (c : ℕ) (packet : Packet) → c < length channels → slice_get packets p ≡ Some packet → does kind c packet ≡ true
      → shown kind c rows ≤ count kind c (take p packets) → IsIn packets p (next_event rows c)
  late-in Start c packet l at starts late =
      let w = first.within in
      let s = enough (length channels) packets rows p (omega arith) first.before Start c l in
      let e = enough (length channels) packets rows p (omega arith) first.before End c l in
      let even = alternate.starts p c packet at starts in
      let b = balance c in
      start-in c packet at starts
      (⊎_elim (λ (t : flies rows c ≡ true). (let one = in-flight-bit (flies rows c) t in absurd (omega (arith, s, e, even, b, late, one))))
      (λ (f : flies rows c ≡ false). f) (cases_Bool (flies rows c)))
      (omega (arith, s, late))
  late-in End c packet l at ends late =
      let w = first.within in
      let s = enough (length channels) packets rows p (omega arith) first.before Start c l in
      let e = enough (length channels) packets rows p (omega arith) first.before End c l in
      let b = balance c in
      ⊎_elim
      (λ (t : flies rows c ≡ true). end-in c packet at ends t (omega (arith, e, late)))
      (λ (f : flies rows c ≡ false).
      (let none = flying-flag (flies rows c) (ap not f) in
      let odd = alternate.ends p c packet at ends in
      let bal = balanced packets alternate c p in
      let least = bal.least in
      let more = count-suc (does Start c) packets p packet at in
      let bit : 0 < cond {A = ℕ} (has packet.starts c) 1 0 = omega (arith, s, e, b, none, odd, least, more, late) in
      start-in c packet at (bit-of (has packet.starts c) bit) f (omega (arith, s, e, b, none, least, late))))
      (cases_Bool (flies rows c))
  late-in Reset c packet l at resets late =
      absurd (false≢true (sym (all-at (λ (q : Packet). q.reset ≡ false) packets p packet none at) ∙ resets))

pub no-circle_in_epoch : (later : Bool) (d : Design) (m : Map) (packets : List Packet) (rows : List Row)
    → IsWellFormed (record { channels = m.channels; packets = packets }) → resets packets ≡ 0
    → IsReplayStretch later d m packets rows → AreStable m.channels rows → (HasEnded (length m.channels) packets rows → ⊥)
    → ((p : ℕ) × IsFirstOpen (length m.channels) packets rows p)
    × ((p : ℕ) → IsFirstOpen (length m.channels) packets rows p → IsFree m.channels packets rows p)
no-circle_in_epoch later d m packets rows well none replay stable open-end = (
  some-open (length m.channels) packets rows open-end,
  λ p first.
      (let late = ⊎_elim (λ (is : IsShown (length m.channels) packets rows p). absurd (first.unshown is))
      (λ (late : LatePacket (length m.channels) packets rows p). late)
      (shown-or-late (length m.channels) packets rows p first.within) in
      let keeps = keeps-in-flight m.channels rows (replay-keeps later d m packets rows replay stable) in
      let balance : (c : ℕ) → shown Start c rows ≡ shown End c rows + cond (flies rows c) 1 0 = λ c.
      subst (λ rs. shown Start c rs ≡ shown End c rs + cond (flies rows c) 1 0) (take_all (length rows) rows (omega arith))
      (counted m.channels rows replay.marked keeps (length rows) (omega arith) c) in
      waiting m.channels packets rows p first late.is.c late.is.within
      (late-in m.channels packets rows (none-reset packets none)
      (one-epoch (record { channels = m.channels; packets = packets }) well none) p first balance late.is.kind late.is.c late.packet
      late.is.within late.at late.is.has-it late.is.late)),
)

pub no-circle : NoCircle
no-circle = no-circle_in_epoch false
