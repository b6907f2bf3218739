-- What is in flight keeps its valid and its content; so each transaction completes with the content of its start.
use Rattle.std.proofs.Common.{◌≡◌, ◌⊎◌, ℕ, zero, suc, ◌<◌, ◌≤◌, ◌^◌, ◌&&◌, Bool, true, false, not, cond, List}
use Rattle.std.proofs.Common.{Option, Some, None, length, take, slice_get, count_by, inl, inr, ⊎_elim, refl, ap, sym, subst, ◌∙◌, arith}
use Rattle.std.specs.Str.{bytes_eq}
use Rattle.std.proofs.lemmas.Bool.{cases_Bool, cases_lt, and_parts, and_from, false≢true}
use Rattle.std.proofs.lemmas.Option.{slice_get_within, same_Some}
use Rattle.std.proofs.lemmas.Slice.Eq.{bytes_eq-Decides}
use Rattle.chan_map.specs.vidi_bits.Number.{has}
use Rattle.chan_map.proofs.vidi_bits_lemmas.BitLemmas.{has-above}
use Rattle.chan_map.specs.trace_model.declared.channel.Channel.{Channel}
use Rattle.chan_map.specs.trace_model.declared.channel.Dir.{Dir}
use Rattle.chan_map.specs.trace_model.declared.channel.Dir.TheVariants.{Inward, Outward}
use Rattle.chan_map.specs.trace_model.declared.event.Kind.TheVariants.{Start}
use Rattle.chan_map.specs.trace_model.declared.row.Row.{Row}
use Rattle.chan_map.specs.trace_model.Counting.{IsNth}
use Rattle.chan_map.specs.trace_model.Laws.{KeepsInFlight}
use Rattle.chan_map.specs.trace_model.Recording.{row_does, IsTransaction}
use Rattle.chan_map.specs.trace_model.Row.{content_at, sink_valid, completes, is_in_flight, flies_after, row_before, AreRows}
use Rattle.chan_map.specs.trace_model.Stability.{waits, IsUnstable}
use Rattle.chan_map.proofs.trace_model_lemmas.CountingLemmas.{count-suc_yes, count-suc_no, nth-unique}
use Rattle.chan_map.proofs.trace_model_lemmas.RowLaws.{counted}
use Rattle.run_model.specs.Laws.{ContentsStay}
use Rattle.run_model.specs.Played.{AreStable}
use Rattle.run_model.proofs.RowParts.{channel-at}

-- what is in flight after the row before is shown on with the same content
pub record Keeps (channels : List Channel) (before row : Row) (c : ℕ) : Type 0 where
  pub valid : sink_valid row c ≡ true
  pub content : content_at channels row.contents c ≡ content_at channels before.contents c

abbrev pub KeepsContents : List Channel → List Row → Type 0
KeepsContents channels rows = (t : ℕ) (before row : Row) → row_before rows t ≡ Some before → slice_get rows t ≡ Some row → (c : ℕ)
    → is_in_flight before c ≡ true → Keeps channels before row c

pub keeps-in-flight : (channels : List Channel) (rows : List Row) → KeepsContents channels rows → KeepsInFlight rows
keeps-in-flight channels rows keeps t before row b at c flies = (keeps t before row b at c flies).valid

-- ---- what stability says
pub flight-parts : (row : Row) (c : ℕ) → is_in_flight row c ≡ true → (has row.valids c ≡ true) × (has row.gates c ≡ true)
    × (completes row c ≡ false)
flight-parts row c h = cases (has row.valids c) (has row.gates c) (has row.readies c) h
  where
    cases : (v g r : Bool) → ((v && g) && not ((v && g) && r)) ≡ true → (v ≡ true) × (g ≡ true) × (((v && g) && r) ≡ false)
    cases true true true h = absurd (false≢true h)
    cases true true false h = (refl, refl, refl)
    cases true false r h = absurd (false≢true h)
    cases false g r h = absurd (false≢true h)

waits-from : (row : Row) (c : ℕ) → has row.valids c ≡ true → completes row c ≡ false → waits row c ≡ true
waits-from row c v e = and_from (has row.valids c) (not (completes row c)) v (ap not e)

same-or-not : (xs ys : List ℕ) → (xs ≡ ys) ⊎ (xs ≡ ys → ⊥)
same-or-not xs ys = ⊎_elim
    (λ (t : bytes_eq xs ys ≡ true). inl ((bytes_eq-Decides xs ys).0 t))
    (λ (f : bytes_eq xs ys ≡ false). inr (λ e. false≢true (sym f ∙ (bytes_eq-Decides xs ys).1 e)))
    (cases_Bool (bytes_eq xs ys))

pub stable-keeps : (channels : List Channel) (before now : Row) (c : ℕ) (x : Channel) → slice_get channels c ≡ Some x → x.dir ≡ Outward
    → (IsUnstable channels before now c → ⊥) → has before.valids c ≡ true → completes before c ≡ false
    → (has now.valids c ≡ true) × (content_at channels now.contents c ≡ content_at channels before.contents c)
stable-keeps channels before now c x at dir stable v e =
    let w = waits-from before c v e in (
      ⊎_elim (λ (t : has now.valids c ≡ true). t)
          (λ (f : has now.valids c ≡ false). absurd (stable (record { channel = x; at = at; outward = dir; waited = w; broken = inl f })))
          (cases_Bool (has now.valids c)),
      ⊎_elim (λ (t : content_at channels now.contents c ≡ content_at channels before.contents c). t)
          (λ (f : content_at channels now.contents c ≡ content_at channels before.contents c → ⊥).
          absurd (stable (record { channel = x; at = at; outward = dir; waited = w; broken = inr f })))
          (same-or-not (content_at channels now.contents c) (content_at channels before.contents c)),
    )

cases-dir : (dir : Dir) → (dir ≡ Inward) ⊎ (dir ≡ Outward)
cases-dir Inward = inl refl
cases-dir Outward = inr refl

-- rows keep their contents where inward channels do, gates stay, and the design is stable
pub keeps-from : (channels : List Channel) (rows : List Row) → AreRows channels rows → AreStable channels rows
    → ((t : ℕ) (before row : Row) → row_before rows t ≡ Some before → slice_get rows t ≡ Some row → (c : ℕ) (x : Channel)
    → slice_get channels c ≡ Some x → x.dir ≡ Inward → is_in_flight before c ≡ true
    → (has row.valids c ≡ true) × (content_at channels row.contents c ≡ content_at channels before.contents c))
    → ((t : ℕ) (before row : Row) → row_before rows t ≡ Some before → slice_get rows t ≡ Some row → (c : ℕ)
    → is_in_flight before c ≡ true → has row.gates c ≡ true)
    → KeepsContents channels rows
keeps-from channels rows are stable inward gates t before row b at c flies = ⊎_elim
    (λ (l : c < length channels).
    let x = channel-at channels c l in
    let f = flight-parts before c flies in
    let both : (has row.valids c ≡ true) × (content_at channels row.contents c ≡ content_at channels before.contents c) = ⊎_elim
    (λ (d : x.0.dir ≡ Inward). inward t before row b at c x.0 x.1 d flies)
    (λ (d : x.0.dir ≡ Outward). stable-keeps channels before row c x.0 x.1 d (stable t before row b at c) f.0 f.2)
    (cases-dir x.0.dir) in
    record { valid = and_from (has row.valids c) (has row.gates c) both.0 (gates t before row b at c flies); content = both.1 })
    (λ (l : length channels ≤ c).
    let before-is = over-before t before b in
    absurd (false≢true (sym (has-above before.valids (length channels) c before-is l) ∙ (flight-parts before c flies).0)))
    (cases_lt c (length channels))
  where
    over-before : (t : ℕ) (before : Row) → row_before rows t ≡ Some before → before.valids < 2 ^ length channels
    over-before zero before b = absurd (cc)
    over-before (suc t) before b = (are t before b).0.valids

-- ---- from the start of a transaction on
-- the last start on channel c before row u, while it is in flight
record Since (channels : List Channel) (rows : List Row) (c u : ℕ) : Type 0 where
  j : ℕ
  t : ℕ
  first : Row
  is : IsNth (row_does Start c) rows j t first
  count : count_by (row_does Start c) (take u rows) ≡ suc j
  same : (row : Row) → row_before rows u ≡ Some row → content_at channels row.contents c ≡ content_at channels first.contents c

no-start : (v f : Bool) → f ≡ true → (v && not f) ≡ false
no-start true f h = ap not h
no-start false f h = refl

since-started : (channels : List Channel) (rows : List Row) (c v : ℕ) (row : Row) → slice_get rows v ≡ Some row
    → row_does Start c row ≡ true
    → Since channels rows c (suc v)
since-started channels rows c v row at starts = record {
  j = count_by (row_does Start c) (take v rows);
  t = v;
  first = row;
  is = record { at = at; passes = starts; before = refl };
  count = count-suc_yes (row_does Start c) rows v row at starts;
  same = λ r e. let here : row ≡ r = same_Some row r (sym at ∙ e) in ap (λ (x : Row). content_at channels x.contents c) (sym here);
}

since-later : (channels : List Channel) (rows : List Row) (c v : ℕ) (row before : Row) → slice_get rows v ≡ Some row
    → row_before rows v ≡ Some before → row_does Start c row ≡ false → Keeps channels before row c → Since channels rows c v
    → Since channels rows c (suc v)
since-later channels rows c v row before at b starts keeps s = record {
  j = s.j;
  t = s.t;
  first = s.first;
  is = s.is;
  count = count-suc_no (row_does Start c) rows v row at starts ∙ s.count;
  same = λ r e.
      let here : row ≡ r = same_Some row r (sym at ∙ e) in
      ap (λ (x : Row). content_at channels x.contents c) (sym here) ∙ keeps.content ∙ s.same before b;
}

flies-some : (o : Option Row) (c : ℕ) → flies_after o c ≡ true → (before : Row) × (o ≡ Some before) × (is_in_flight before c ≡ true)
flies-some None c h = absurd (false≢true h)
flies-some (Some before) c h = (before, refl, h)

pub flying-flag : (b : Bool) → not b ≡ true → cond {A = ℕ} b 1 0 ≡ 0
flying-flag true h = absurd (false≢true h)
flying-flag false h = refl

module _ (channels : List Channel) (rows : List Row) (are : AreRows channels rows) (keeps : KeepsContents channels rows) (c : ℕ) where
  since-suc : (v : ℕ) (row : Row) → slice_get rows v ≡ Some row → is_in_flight row c ≡ true
      → (flies_after (row_before rows v) c ≡ true → Since channels rows c v) → Since channels rows c (suc v)
  since-suc v row at flies before = ⊎_elim
      (λ (f : flies_after (row_before rows v) c ≡ true).
      let b = flies-some (row_before rows v) c f in
      since-later channels rows c v row b.0 at b.1
      ((are v row at).1.starts c ∙ no-start (sink_valid row c) (flies_after (row_before rows v) c) f)
      (keeps v b.0 row b.1 at c b.2) (before f))
      (λ (f : flies_after (row_before rows v) c ≡ false).
      let p = flight-parts row c flies in
      since-started channels rows c v row at
      ((are v row at).1.starts c ∙ and_from (sink_valid row c) (not (flies_after (row_before rows v) c))
      (and_from (has row.valids c) (has row.gates c) p.0 p.1) (ap not f)))
      (cases_Bool (flies_after (row_before rows v) c))

  since : (u : ℕ) → flies_after (row_before rows u) c ≡ true → Since channels rows c u
  since zero h = absurd (false≢true h)
  since (suc v) h =
      let b = flies-some (slice_get rows v) c h in
      since-suc v b.0 b.1 b.2 (since v)

  flying-one : (b : Bool) → b ≡ true → cond {A = ℕ} b 1 0 ≡ 1
  flying-one true h = refl
  flying-one false h = absurd (false≢true h)

  flying-none : (b : Bool) → b ≡ false → cond {A = ℕ} b 1 0 ≡ 0
  flying-none true h = absurd (false≢true (sym h))
  flying-none false h = refl

  -- the transaction that completes in row u is in flight before it, or starts in it
  stay : (j t u : ℕ) (x : IsTransaction rows c j t u) → content_at channels x.last.contents c ≡ content_at channels x.first.contents c
  stay j t u x =
      let at = x.ends.at in
      let l = slice_get_within rows u x.last at in
      let ends : completes x.last c ≡ true = sym ((are u x.last at).1.ends c) ∙ x.ends.passes in
      let valid : sink_valid x.last c ≡ true = (and_parts (sink_valid x.last c) (has x.last.readies c) ends).0 in
      let all = counted channels rows are (keeps-in-flight channels rows keeps) u (omega arith) c in
      let done = x.ends.before in
      ⊎_elim
      (λ (f : flies_after (row_before rows u) c ≡ true).
      let b = flies-some (row_before rows u) c f in
      let s = since u f in
      let n = flying-one (flies_after (row_before rows u) c) f in
      let count = s.count in
      let index : s.j ≡ j = omega (arith, all, done, n, count) in
      let is : IsNth (row_does Start c) rows j s.t s.first = subst (λ k. IsNth (row_does Start c) rows k s.t s.first) index s.is in
      let one = nth-unique (row_does Start c) rows j s.t t s.first x.first is x.starts in
      (keeps u b.0 x.last b.1 at c b.2).content ∙ s.same b.0 b.1 ∙ ap (λ (r : Row). content_at channels r.contents c) one.1)
      (λ (f : flies_after (row_before rows u) c ≡ false).
      let n = flying-none (flies_after (row_before rows u) c) f in
      let is : IsNth (row_does Start c) rows j u x.last = record {
        at = at;
        passes = (are u x.last at).1.starts c ∙ and_from (sink_valid x.last c) (not (flies_after (row_before rows u) c)) valid (ap not f);
        before = omega (arith, all, done, n);
      } in
      let one = nth-unique (row_does Start c) rows j u t x.last x.first is x.starts in
      ap (λ (r : Row). content_at channels r.contents c) one.1)
      (cases_Bool (flies_after (row_before rows u) c))

pub contents-stay : (channels : List Channel) (rows : List Row) → AreRows channels rows → KeepsContents channels rows
    → ContentsStay channels rows
contents-stay channels rows are keeps c j t u x = stay channels rows are keeps c j t u x
