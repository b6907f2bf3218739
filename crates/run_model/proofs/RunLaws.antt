-- A run's offers and gates fix its rows; they keep contents.
use Rattle.std.proofs.Common.{◌≡◌, ℕ, zero, suc, ◌<◌, ◌^◌, Bool, true, false, List, [], ◌∷◌}
use Rattle.std.proofs.Common.{◌++◌, Some, length, take, slice_get, refl, ap, sym, subst, ◌∙◌}
use Rattle.std.proofs.lemmas.Bool.{cond-true}
use Rattle.chan_map.specs.vidi_bits.Number.{has}
use Rattle.chan_map.specs.trace_model.declared.channel.Channel.{Channel}
use Rattle.chan_map.specs.trace_model.declared.channel.Dir.{Dir}
use Rattle.chan_map.specs.trace_model.declared.channel.Dir.TheVariants.{Inward, Outward}
use Rattle.chan_map.specs.trace_model.declared.row.Offers.{Offers}
use Rattle.chan_map.specs.trace_model.declared.row.Row.{Row}
use Rattle.chan_map.specs.trace_model.Row.{content_at, completes, is_in_flight, row_before, AreRows}
use Rattle.chan_map.proofs.trace_model_lemmas.CountingLemmas.{take-suc_get}
use Rattle.net_design.specs.declared.design.Design.{Design}
use Rattle.chan_map.specs.declared.pins.Map.{Map}
use Rattle.run_model.specs.Laws.{IsReady, GatesOf, OffersFit, OneOfLength, OffersStay, GatesStay, ContentsStay, HasWellFormedTrace}
use Rattle.run_model.specs.Laws.{RunKeepsContents}
use Rattle.run_model.specs.Offers.{CarriesOn, Carries, offered_content}
use Rattle.run_model.specs.Played.{AreStable, is_fresh_after}
use Rattle.run_model.specs.Run.{IsRunStretch, IsStretchRow}
use Rattle.run_model.proofs.PlayedLaws.{Determines, Allows, one-list_of_rows, some-list, rows-front}
use Rattle.run_model.proofs.RowParts.{carried}
use Rattle.run_model.proofs.Stays.{KeepsContents, keeps-from, keeps-in-flight, contents-stay, flight-parts}
use Rattle.run_model.proofs.OneEpoch.{NoneFreshBehind, one-stretch}
use Rattle.chan_map.proofs.trace_model_lemmas.TraceLaws.{rows-well_formed}

-- ---- exactly one list of n rows
-- after these rows exactly one set of gates may be up, and it is of these channels
pub record HasOneMask (channels : List Channel) (gates : List Row → ℕ → Type 0) (before : List Row) : Type 0 where
  pub mask : ℕ
  pub is : gates before mask
  pub below : mask < 2 ^ length channels
  pub only : (a b : ℕ) → gates before a → gates before b → a ≡ b

-- so it is after all rows
abbrev pub GatesAreFixed : List Channel → (List Row → ℕ → Type 0) → Type 0
GatesAreFixed channels gates = (before : List Row) → AreRows channels before → HasOneMask channels gates before

run-determines : (later : Bool) (channels : List Channel) (offers : List Row → Offers) (gates : List Row → ℕ → Type 0)
    → GatesAreFixed channels gates → Determines channels (IsStretchRow later channels offers gates)
run-determines later channels offers gates one before a b are oa ob ra rb =
    (ra.2 ∙ sym rb.2, carried channels (offers before) a b ((one before are).only a.gates b.gates ra.1 rb.1) ra.0 rb.0)

run-allows : (later : Bool) (channels : List Channel) (offers : List Row → Offers) → OffersFit channels offers → (gates : List Row → ℕ → Type 0)
    → GatesAreFixed channels gates → (before : List Row) → AreRows channels before → Allows channels (IsStretchRow later channels offers gates) before
run-allows later channels offers fit gates one before are = record {
  offers = offers before;
  gates = (one before are).mask;
  fresh = is_fresh_after later before;
  are = fit before are;
  below = (one before are).below;
  allows = λ row over carries g fresh. (carries, subst (gates before) (sym g) (one before are).is, fresh);
}

pub one-of_length : (later : Bool) (d : Design) (m : Map) → IsReady d m → (offers : List Row → Offers) → OffersFit m.channels offers
    → (gates : List Row → ℕ → Type 0) → GatesAreFixed m.channels gates → (n : ℕ) → OneOfLength (IsRunStretch later d m offers gates) n
one-of_length later d m ready offers fit gates one n = (
  some-list d m ready.lawful ready.one_map ready.mapped (IsStretchRow later m.channels offers gates) (run-allows later m.channels offers fit gates one) n,
  λ a b la lb ra rb. one-list_of_rows d m ready.lawful ready.one_map ready.mapped (IsStretchRow later m.channels offers gates)
      (run-determines later m.channels offers gates one) a b ra rb (la ∙ sym lb),
)

-- ---- contents stay
-- gates are kept where they were up without a completion
pub record StayUp (channels : List Channel) (gates : List Row → ℕ → Type 0) : Type 0 where
  pub stay : (before : List Row) (row : Row) (next : ℕ) → AreRows channels (before ++ row ∷ []) → gates before row.gates
      → gates (before ++ row ∷ []) next → (c : ℕ) → has row.gates c ≡ true → completes row c ≡ false → has next c ≡ true

carried-valid : (channels : List Channel) (offers : Offers) (row : Row) (c : ℕ) (dir : Dir) → dir ≡ Inward
    → CarriesOn channels offers row c dir
    → (has row.valids c ≡ has offers.valids c) × (content_at channels row.contents c ≡ offered_content channels offers c)
carried-valid channels offers row c Inward d h = h
carried-valid channels offers row c Outward d h = absurd (cc)

offered : (channels : List Channel) (offers : Offers) (c : ℕ) → has offers.valids c ≡ true
    → offered_content channels offers c ≡ content_at channels offers.contents c
offered channels offers c h = cond-true (has offers.valids c) (content_at channels offers.contents c) _ h

module _ (later : Bool) (d : Design) (m : Map) (offers : List Row → Offers) (gates : List Row → ℕ → Type 0) (rows : List Row)
    (stay : OffersStay m.channels offers) (up : StayUp m.channels gates) (run : IsRunStretch later d m offers gates rows) where
  abbrev front : ℕ → List Row
  front v = take v rows

  inward : (t : ℕ) (before row : Row) → row_before rows t ≡ Some before → slice_get rows t ≡ Some row → (c : ℕ) (x : Channel)
      → slice_get m.channels c ≡ Some x → x.dir ≡ Inward → is_in_flight before c ≡ true
      → (has row.valids c ≡ true) × (content_at m.channels row.contents c ≡ content_at m.channels before.contents c)
  inward zero before row b at c x there dir flies = absurd (cc)
  inward (suc v) before row b at c x there dir flies =
      let grown : take (suc v) rows ≡ take v rows ++ before ∷ [] = take-suc_get rows v before b in
      let f = flight-parts before c flies in
      let old = carried-valid m.channels (offers (take v rows)) before c x.dir dir ((run.ruled v before b).0 c x there) in
      let new = carried-valid m.channels (offers (take v rows ++ before ∷ [])) row c x.dir dir
      (subst (λ rs. Carries m.channels (offers rs) row) grown (run.ruled (suc v) row at).0 c x there) in
      let was : has (offers (take v rows)).valids c ≡ true = sym old.0 ∙ f.0 in
      let s = stay (take v rows) before (subst (AreRows m.channels) grown (rows-front m.channels rows (suc v) run.marked))
      (run.ruled v before b).0 c x there dir was f.2 in (
        new.0 ∙ s.0,
        new.1 ∙ offered m.channels (offers (take v rows ++ before ∷ [])) c s.0 ∙ s.1
            ∙ sym (offered m.channels (offers (take v rows)) c was) ∙ sym old.1,
      )

  gates-up : (t : ℕ) (before row : Row) → row_before rows t ≡ Some before → slice_get rows t ≡ Some row → (c : ℕ)
      → is_in_flight before c ≡ true → has row.gates c ≡ true
  gates-up zero before row b at c flies = absurd (cc)
  gates-up (suc v) before row b at c flies =
      let grown : take (suc v) rows ≡ take v rows ++ before ∷ [] = take-suc_get rows v before b in
      let f = flight-parts before c flies in
      up.stay (take v rows) before row.gates (subst (AreRows m.channels) grown (rows-front m.channels rows (suc v) run.marked))
      (run.ruled v before b).1 (subst (λ rs. gates rs row.gates) grown (run.ruled (suc v) row at).1) c f.1 f.2

  pub run-keeps : AreStable m.channels rows → KeepsContents m.channels rows
  run-keeps stable = keeps-from m.channels rows run.marked stable inward gates-up

plan-stays : (channels : List Channel) (plan : List Row → ℕ) → GatesStay channels plan → StayUp channels (GatesOf plan)
plan-stays channels plan stays = record {
  stay = λ before row next are g n c up closed. ap (λ k. has k c) n ∙ stays before row are g c up closed;
}

pub kept : (channels : List Channel) (rows : List Row) → NoneFreshBehind rows → AreRows channels rows → KeepsContents channels rows
    → ContentsStay channels rows × HasWellFormedTrace channels rows
kept channels rows none are keeps = (
  contents-stay channels rows are keeps,
  λ few. rows-well_formed channels rows few (one-stretch channels rows none are (keeps-in-flight channels rows keeps)),
)

-- the rows after the first one have some before them
pub none-behind : (later : Bool) (rows : List Row) → ((t : ℕ) (row : Row) → slice_get rows t ≡ Some row → row.fresh ≡ is_fresh_after later (take t rows))
    → NoneFreshBehind rows
none-behind later [] marks t row at = absurd (cc)
none-behind false (x ∷ rows) marks t row at = marks (suc t) row at
none-behind true (x ∷ rows) marks t row at = marks (suc t) row at

pub stretch-keeps_contents : (later : Bool) (d : Design) (m : Map) (offers : List Row → Offers) (plan : List Row → ℕ) (rows : List Row)
    → OffersStay m.channels offers → GatesStay m.channels plan → IsRunStretch later d m offers (GatesOf plan) rows
    → AreStable m.channels rows → ContentsStay m.channels rows × HasWellFormedTrace m.channels rows
stretch-keeps_contents later d m offers plan rows stay gates run stable = kept m.channels rows
    (none-behind later rows (λ t row at. (run.ruled t row at).2)) run.marked
    (run-keeps later d m offers (GatesOf plan) rows stay (plan-stays m.channels plan gates) run stable)

pub run-keeps_contents : RunKeepsContents
run-keeps_contents = stretch-keeps_contents false
