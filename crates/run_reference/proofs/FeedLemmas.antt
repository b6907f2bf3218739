-- What a replay offers, in the manner of the code, is what *IsReplay* asks for.
use Rattle.std.proofs.Common.{◌≡◌, ◌↔◌, ℕ, zero, suc, ◌+◌, ◌<◌, ◌≤◌, Bool, true, false, cond, ltb, List, [], ◌∷◌, ◌++◌}
use Rattle.std.proofs.Common.{Option, Some, None, length, slice_get, ⊎_elim, refl, ap, sym, subst, ◌∙◌, arith}
use Rattle.std.specs.Prelude.{is_some}
use Rattle.std.specs.List.{enumerate_from, flat_map}
use Rattle.std.proofs.lemmas.Bool.{cases_lt, false≢true, cond-true, cond-false, lt-ltb}
use Rattle.std.proofs.lemmas.Option.{slice_get_within, same_Some}
use Rattle.run_model.specs.vidi_bits.Number.{has}
use Rattle.run_model.specs.trace_model.declared.channel.Channel.{Channel}
use Rattle.run_model.specs.trace_model.declared.channel.Dir.{Dir}
use Rattle.run_model.specs.trace_model.declared.channel.Dir.TheVariants.{Inward, Outward}
use Rattle.run_model.specs.trace_model.declared.event.Event.{Event}
use Rattle.run_model.specs.trace_model.declared.event.Kind.{Kind}
use Rattle.run_model.specs.trace_model.declared.event.Kind.TheVariants.{Start, End}
use Rattle.run_model.specs.trace_model.declared.packet.Packet.{Packet}
use Rattle.run_model.specs.trace_model.declared.row.Offers.{Offers}
use Rattle.run_model.specs.trace_model.declared.row.Row.{Row}
use Rattle.run_model.specs.trace_model.Clock.{clock, Covers}
use Rattle.run_model.specs.trace_model.Counting.{IsNth}
use Rattle.run_model.specs.trace_model.Packet.{does, content_of, Fit, IsPacket}
use Rattle.run_model.specs.trace_model.Row.{row_before, AreOffers}
use Rattle.run_model.proofs.trace_model_lemmas.ContentsLemmas.{content-fits}
use Rattle.run_model.proofs.trace_model_lemmas.CountingLemmas.{nth-unique}
use Rattle.net_design.specs.declared.design.Design.{Design}
use Rattle.net_design.specs.declared.values.Values.{Values}
use Rattle.run_model.specs.chan_map.declared.pins.Map.{Map}
use Rattle.run_model.specs.vidi_bits.Findings.{is_nil}
use Rattle.run_model.specs.declared.held.Await.{Await}
use Rattle.run_model.specs.Held.{await_on, awaits, event, packet_place}
use Rattle.run_model.specs.Laws.{ContentsFit}
use Rattle.run_model.specs.Offers.{no_content, CarriesOn, Carries}
use Rattle.run_model.specs.Played.{all_up}
use Rattle.run_model.specs.Replay.{done, IsCovered, IsOfferedOn, IsOffered, IsReplayRow}
use Rattle.run_model.specs.Step.{IsStep}
use Rattle.run_model.proofs.Contents.{mask-below, has-mask, fit-joined, content-joined}
use Rattle.run_model.proofs.EventPlaces.{place-is, nth-place, awaits-none}
use Rattle.run_model.proofs.PinLemmas.{all-at}
use Rattle.run_model.proofs.PlayedLaws.{Grown, played-push}
use Rattle.run_model.proofs.RowParts.{no-content-fits}
use Rattle.run_reference.specs.Feed.{if_covered, covered_place, is_offered, packet_content, content_in, feed}
use Rattle.run_reference.proofs.StepLemmas.{Stepped}

pub place-within : (packets : List Packet) (e : Event) (p : ℕ) → packet_place packets e ≡ Some p → p < length packets
place-within packets e p h =
    let r = place-is (does e.kind e.channel) 0 packets e.index p h in
    let l = slice_get_within packets r.q r.x r.is.at in
    let place = r.place in
    omega (arith, l, place)

-- ---- covered
-- where nothing is awaited the clock is covered
none-await : (have need : ℕ → ℕ) (c : ℕ) → await_on have need c ≡ [] → need c ≤ have c
none-await have need c h = ⊎_elim
    (λ (l : have c < need c). (let on : await_on have need c ≡ record { channel = c; have = have c; need = need c } ∷ [] =
    cond-true (ltb (have c) (need c)) (record { channel = c; have = have c; need = need c } ∷ []) [] (lt-ltb (have c) (need c) l) in
    absurd (clash (record { channel = c; have = have c; need = need c }) (sym on ∙ h))))
    (λ (l : need c ≤ have c). l)
    (cases_lt (have c) (need c))
  where
    clash : (a : Await) → ◌≡◌ {A = List Await} (a ∷ []) [] → ⊥
    clash a e = cc

nil-left : (xs ys : List Await) → xs ++ ys ≡ [] → xs ≡ []
nil-left [] ys h = refl
nil-left (x ∷ xs) ys h = absurd (cc)

nil-right : (xs ys : List Await) → xs ++ ys ≡ [] → ys ≡ []
nil-right [] ys h = h
nil-right (x ∷ xs) ys h = absurd (cc)

covered-all : (have need : ℕ → ℕ) (k : ℕ) (xs : List Channel)
    → flat_map (λ (c : ℕ × Channel). await_on have need c.0) (enumerate_from k xs) ≡ [] → (i j : ℕ) → i < length xs → j ≡ k + i
    → need j ≤ have j
covered-all have need k [] h i j l e = absurd (omega arith)
covered-all have need k (x ∷ xs) h zero j l e =
    let same : k ≡ j = omega (arith, e) in
    subst (λ n. need n ≤ have n) same (none-await have need k (nil-left (await_on have need k)
    (flat_map (λ (c : ℕ × Channel). await_on have need c.0) (enumerate_from (k + 1) xs)) h))
covered-all have need k (x ∷ xs) h (suc i) j l e = covered-all have need (k + 1) xs
    (nil-right (await_on have need k) (flat_map (λ (c : ℕ × Channel). await_on have need c.0) (enumerate_from (k + 1) xs)) h)
    i j (omega arith) (omega (arith, e))

covers-from : (channels : List Channel) (have need : ℕ → ℕ) → awaits channels have need ≡ [] → Covers (length channels) have need
covers-from channels have need h c l = covered-all have need 0 channels h c c l (omega arith)

covers-to : (channels : List Channel) (have need : ℕ → ℕ) → Covers (length channels) have need → awaits channels have need ≡ []
covers-to channels have need h = awaits-none channels have need 0 (λ i l. h (0 + i) (omega arith))

nil-is : (xs : List Await) → is_nil xs ≡ true → xs ≡ []
nil-is [] h = refl
nil-is (x ∷ xs) h = absurd (false≢true h)

-- a place is answered exactly where the event is covered
some-if : (b : Bool) (p q : ℕ) → cond b (Some p) None ≡ Some q → (b ≡ true) × (p ≡ q)
some-if true p q h = (refl, same_Some p q h)
some-if false p q h = absurd (cc)

pub record AtPlace (channels : List Channel) (packets : List Packet) (rows : List Row) (kind : Kind) (c p : ℕ) : Type 0 where
  pub packet : Packet
  pub is : IsNth (does kind c) packets (done rows c) p packet
  pub covers : Covers (length channels) (done rows) (clock packets p)

at-place : (channels : List Channel) (packets : List Packet) (rows : List Row) (kind : Kind) (c : ℕ) (o : Option ℕ)
    → packet_place packets (event c kind (done rows c)) ≡ o → (p : ℕ) → if_covered channels packets rows o ≡ Some p
    → AtPlace channels packets rows kind c p
at-place channels packets rows kind c None is p h = absurd (cc)
at-place channels packets rows kind c (Some q) is p h =
    let s = some-if (is_nil (awaits channels (done rows) (clock packets q))) q p h in
    let r = place-is (does kind c) 0 packets (done rows c) q is in
    let place : r.q ≡ p = (let e = r.place in let f = s.1 in omega (arith, e, f)) in
    record {
      packet = r.x;
      is = subst (λ k. IsNth (does kind c) packets (done rows c) k r.x) place r.is;
      covers = subst (λ k. Covers (length channels) (done rows) (clock packets k)) s.1
          (covers-from channels (done rows) (clock packets q) (nil-is (awaits channels (done rows) (clock packets q)) s.0));
    }

covered-some : (channels : List Channel) (packets : List Packet) (rows : List Row) (kind : Kind) (c : ℕ)
    → (w : IsCovered (length channels) packets (done rows) kind c (done rows c)) → covered_place channels packets rows kind c ≡ Some w.place
covered-some channels packets rows kind c w =
    ap (if_covered channels packets rows) (nth-place (does kind c) 0 packets (done rows c) w.place w.place w.packet w.is (omega arith))
    ∙ ap (λ (xs : List Await). cond (is_nil xs) (Some w.place) None) (covers-to channels (done rows) (clock packets w.place) w.covers)

some-place : (o : Option ℕ) → is_some o ≡ true → (p : ℕ) × (o ≡ Some p)
some-place None h = absurd (false≢true h)
some-place (Some p) h = (p, refl)

pub offered-when : (channels : List Channel) (packets : List Packet) (rows : List Row) (kind : Kind) (c : ℕ)
    → (is_offered channels packets rows kind c ≡ true) ↔ IsCovered (length channels) packets (done rows) kind c (done rows c)
offered-when channels packets rows kind c = (
  λ h.
      (let p = some-place (covered_place channels packets rows kind c) h in
      let a = at-place channels packets rows kind c (packet_place packets (event c kind (done rows c))) refl p.0 p.1 in
      record { place = p.0; packet = a.packet; is = a.is; covers = a.covers }),
  λ w. ap is_some (covered-some channels packets rows kind c w),
)

-- ---- contents
content-at-place : (channels : List Channel) (packets : List Packet) (rows : List Row) (c : ℕ)
    → (w : IsCovered (length channels) packets (done rows) Start c (done rows c))
    → content_in channels packets c (covered_place channels packets rows Start c) ≡ content_of channels w.packet c
content-at-place channels packets rows c w =
    ap (content_in channels packets c) (covered-some channels packets rows Start c w)
    ∙ ap (packet_content channels c) w.is.at

in-fits : (channels : List Channel) (packets : List Packet) (rows : List Row) → ContentsFit channels packets → (c : ℕ) (x : Channel)
    → slice_get channels c ≡ Some x → (o : Option ℕ) → covered_place channels packets rows Start c ≡ o
    → Fit x.widths (content_in channels packets c o)
in-fits channels packets rows fit c x at None e = no-content-fits channels c x at
in-fits channels packets rows fit c x at (Some p) e =
    let a = at-place channels packets rows Start c (packet_place packets (event c Start (done rows c))) refl p e in
    subst (λ (o : Option Packet). Fit x.widths (packet_content channels c o)) (sym a.is.at)
    (content-fits channels a.packet c x (all-at (IsPacket channels) packets p a.packet fit a.is.at).contents at a.is.passes)

feed-fits : (channels : List Channel) (packets : List Packet) (rows : List Row) → ContentsFit channels packets → (c : ℕ) (x : Channel)
    → slice_get channels c ≡ Some x → Fit x.widths (content_in channels packets c (covered_place channels packets rows Start c))
feed-fits channels packets rows fit c x at = in-fits channels packets rows fit c x at (covered_place channels packets rows Start c) refl

pub feed-over : (channels : List Channel) (packets : List Packet) (rows : List Row) → ContentsFit channels packets
    → AreOffers channels (feed channels packets rows)
feed-over channels packets rows fit = record {
  valids = mask-below (is_offered channels packets rows Start) (length channels);
  readies = mask-below (is_offered channels packets rows End) (length channels);
  contents = fit-joined (λ c. content_in channels packets c (covered_place channels packets rows Start c)) channels
      (feed-fits channels packets rows fit);
}

feed-on : (channels : List Channel) (packets : List Packet) (rows : List Row) → ContentsFit channels packets
    → (row : Row) (c : ℕ) (dir : Dir)
    (x : Channel) → slice_get channels c ≡ Some x → CarriesOn channels (feed channels packets rows) row c dir
    → IsOfferedOn channels packets (done rows) row c dir
feed-on channels packets rows fit row c Inward x at h =
    let l = slice_get_within channels c x at in
    let bit : has row.valids c ≡ is_offered channels packets rows Start c =
    h.0 ∙ has-mask (is_offered channels packets rows Start) (length channels) c l in
    let when = offered-when channels packets rows Start c in (
      (λ t. when.0 (sym bit ∙ t), λ w. bit ∙ when.1 w),
      λ t place packet is.
          (let w = when.0 (sym bit ∙ t) in
          h.1 ∙ cond-true (has (feed channels packets rows).valids c) _ (no_content channels c) (sym h.0 ∙ t)
          ∙ content-joined (λ k. content_in channels packets k (covered_place channels packets rows Start k)) channels
          (feed-fits channels packets rows fit) c x at
          ∙ content-at-place channels packets rows c w
          ∙ ap (λ (p : Packet). content_of channels p c)
          (nth-unique (does Start c) packets (done rows c) w.place place w.packet packet w.is is).1),
      λ f. h.1 ∙ cond-false (has (feed channels packets rows).valids c) _ (no_content channels c) (sym h.0 ∙ f),
    )
feed-on channels packets rows fit row c Outward x at h =
    let l = slice_get_within channels c x at in
    let bit : has row.readies c ≡ is_offered channels packets rows End c =
    h ∙ has-mask (is_offered channels packets rows End) (length channels) c l in
    let when = offered-when channels packets rows End c in
    (λ t. when.0 (sym bit ∙ t), λ w. bit ∙ when.1 w)

pub feed-allows : (channels : List Channel) (packets : List Packet) (rows : List Row) → ContentsFit channels packets → (row : Row)
    → Carries channels (feed channels packets rows) row → IsOffered channels packets (done rows) row
feed-allows channels packets rows fit row carries c x at = feed-on channels packets rows fit row c x.dir x at (carries c x at)

-- ---- a replay one row longer
pub replay-grow : (d : Design) (m : Map) (packets : List Packet) → ContentsFit m.channels packets → (rows : List Row) (s : Values)
    → Grown d m (IsReplayRow m.channels packets) rows s → (offers : Offers) → offers ≡ feed m.channels packets rows → (gates : ℕ)
    → gates ≡ all_up m.channels → (row : Row) (after : Values) → Stepped d m (row_before rows (length rows)) offers gates s row after
    → row.gates ≡ gates → row.fresh ≡ false → Grown d m (IsReplayRow m.channels packets) (rows ++ row ∷ []) after
replay-grow d m packets fit rows s grown offers o gates up row after st g fresh =
    played-push d m (IsReplayRow m.channels packets) rows row after grown.played
    (feed-allows m.channels packets rows fit row (subst (λ (x : Offers). Carries m.channels x row) o st.carried), g ∙ up, fresh) st.over st.marked
    (subst (λ u. IsStep d m u row after) (sym grown.state) st.step)
