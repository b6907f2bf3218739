-- The row that is kept, whatever the design, and what is given for the next one.
use Rattle.std.proofs.Common.{◌≡◌, ◌&&◌, Bool, true, false, not, List, [], ◌∷◌, ◌++◌, Option}
use Rattle.std.proofs.Common.{Some, None, ℕ, zero, suc, ◌+◌, ◌<◌, ◌^◌, length, refl, ap, sym, subst, ◌∙◌, arith}
use Rattle.std.proofs.Math.Bool.{and-false, and-true}
use Rattle.std.proofs.Math.Logic.{∥∥₁_elim}
use Rattle.std.proofs.Props.{props}
use Rattle.std.proofs.lemmas.Bool.{false_from_ne_true, false≢true}
use Rattle.std.proofs.lemmas.List.{length-append}
use Rattle.trace_code.specs.trace_model.declared.channel.Channel.{Channel}
use Rattle.trace_code.specs.trace_model.declared.row.Offers.{Offers}
use Rattle.trace_code.specs.trace_model.declared.row.Row.{Row}
use Rattle.trace_code.specs.trace_model.Row.{all_widths, flies_after, row_before, sink_valid, AreOffers, IsMarked, IsOver}
use Rattle.trace_code.proofs.trace_model_lemmas.ContentsLemmas.{fit-length}
use Rattle.trace_code.proofs.trace_model_lemmas.CountingLemmas.{slice_get-last}
use Rattle.net_design.specs.declared.design.Design.{Design}
use Rattle.env_script.specs.chan_map.declared.pins.Map.{Map}
use Rattle.env_script.specs.chan_map.vidi_bits.Findings.{is_nil}
use Rattle.env_script.specs.run_model.Played.{AreStable}
use Rattle.env_script.specs.run_model.Laws.{OffersStay}
use Rattle.env_script.specs.run_model.Offers as Rows
use Rattle.env_script.specs.run_model.Stretches.{Turns, offers_behind, rows_of}
use Rattle.env_script.proofs.run_model_lemmas.RunLaws.{run-keeps}
use Rattle.env_script.proofs.run_model_lemmas.Stays.{KeepsContents}
use Rattle.env_script.specs.Offer.{Offer, Carries, EndsAreCompletions}
use Rattle.env_script.specs.Offered.{offers_after, offers_on, AllFit, AreLasting}
use Rattle.env_script.proofs.Lasting.{lasting-behind, offers-stay}
use Rattle.env_script.proofs.OfferLaws.{are-offers, are-zero, carries-each}
use Rattle.room_ledger.specs.Gates.{Plan, AreGates}
use Rattle.room_ledger.specs.Laws.{MayFollow, StandsAfter, before_next}
use Rattle.room_ledger.specs.Ledger.{Ledger}
use Rattle.room_ledger.proofs.GateLaws.{one-set}
use Rattle.run_stage.specs.declared.given.Gated.{Gated}
use Rattle.run_stage.specs.Given.{FitsGates, IsGatedRow}
use Rattle.run_stage.specs.Stretching.{all_rows, is_fresh_behind, ArePlayed, AreRuledStretches, GoesOn}
use Rattle.run_stage.proofs.Stretching.{over-last}
use Rattle.run_stage.proofs.Turning.{before-append, last-of}
use Rattle.vidi_recorder.specs.Course.{gates_behind, sizes_of, turns_within}
use Rattle.vidi_recorder.specs.Standing.{IsNextFresh, rule_within}
use Rattle.vidi_recorder.proofs.Gated.{gates-stay}
use Rattle.vidi_recorder.proofs.Played.{goes-on, strict}

-- ---- the row before
behind-one : (n : ℕ) → 0 < n → (row : Row) (rows : List Row) → row_before (row ∷ rows) (suc n) ≡ row_before rows n
behind-one zero l row rows = absurd (omega (arith, l))
behind-one (suc n) l row rows = refl

-- it is that of the stretch, where there is one since the reset
before-behind : (front back : List Row) → 0 < length back → row_before (front ++ back) (length (front ++ back)) ≡ row_before back (length back)
before-behind [] back l = refl
before-behind (row ∷ front) back l =
    let long = length-append front back in
    behind-one (length (front ++ back)) (omega (arith, long, l)) row (front ++ back) ∙ before-behind front back l

module _ (channels : List Channel) (plan : Plan) (times : List ℕ) (cycles : ℕ) (past : List (List Row)) (here : List Row) (fresh : Bool)
    (next : IsNextFresh channels plan times cycles past here fresh)
    (goes : GoesOn (Turns (turns_within channels plan times cycles)) past here) where
  -- whether the next row is fresh, where no reset comes
  pub fresh-is : fresh ≡ is_fresh_behind past here
  fresh-is = at here (λ e. next.begins e) (λ l. false_from_ne_true fresh (λ h. goes l (sym (next.goes_on l) ∙ h)))
    where
      at : (rows : List Row) → (rows ≡ [] → fresh ≡ not (is_nil past)) → (0 < length rows → fresh ≡ false) → fresh ≡ is_fresh_behind past rows
      at [] begins goes = begins refl ∙ sym (and-true (not (is_nil past)))
      at (row ∷ rows) begins goes = goes (omega arith) ∙ sym (and-false (not (is_nil past)))

  -- the row out of which a transaction may be in flight is the row before, since the reset
  pub before-is : before_next (all_rows past here) fresh ≡ row_before here (length here)
  before-is = ap (before_next (all_rows past here)) fresh-is ∙ at past here
    where
      at : (before : List (List Row)) (rows : List Row)
          → before_next (all_rows before rows) (is_fresh_behind before rows) ≡ row_before rows (length rows)
      at [] [] = refl
      at (s ∷ before) [] = refl
      at before (row ∷ rows) = ap (before_next (all_rows before (row ∷ rows))) (and-false (not (is_nil before)))
          ∙ before-behind (rows_of before) (row ∷ rows) (omega arith)

-- ---- the next row
-- what holds of a row that was committed behind these, whatever the design
pub record IsNext (channels : List Channel) (offer : ℕ → Offer) (room : Ledger) (rows : List Row) (fresh : Bool) (row : Row) : Type 0 where
  pub over : IsOver channels row
  pub mark : row.fresh ≡ fresh
  pub carries : Carries channels offer row
  pub ends : EndsAreCompletions row
  pub follows : MayFollow room fresh (before_next rows fresh) row

module _ (m : Map) (offer : List Row → ℕ → Offer) (plan : Plan) (times : List ℕ) (cycles : ℕ) (past : List (List Row)) (here : List Row)
    (row : Row) (fresh : Bool) (room : Ledger) (lasts : AreLasting m.channels offer)
    (next : IsNextFresh m.channels plan times cycles past here fresh)
    (stands : StandsAfter (sizes_of m.channels) plan (all_rows past here) fresh room) where
  abbrev Rules : List (List Row) → List Row → Row → Type 0
  Rules = rule_within m.channels offer plan times cycles

  abbrev Turn : List (List Row) → List Row → Type 0
  Turn = Turns (turns_within m.channels plan times cycles)

  abbrev Played : Type 0
  Played = (d : Design) × ArePlayed d m Rules Turn past (here ++ row ∷ [])

  stay-behind : OffersStay m.channels (offers_behind (offers_after m.channels offer) past)
  stay-behind before last are =
      offers-stay m.channels (λ b. offer (rows_of past ++ b)) (lasting-behind m.channels offer lasts (rows_of past)) before last are

  mark-is : (f r : Bool) → (f ≡ true → r ≡ true) → (r && f) ≡ f
  mark-is true r h = and-true r ∙ h refl
  mark-is false r h = and-false r

  next-one : (d : Design) → AreStable m.channels (here ++ row ∷ []) → ArePlayed d m Rules Turn past (here ++ row ∷ [])
      → IsNext m.channels (offer (all_rows past here)) room (all_rows past here) fresh row
  next-one d stable played =
      let goes = goes-on d m offer plan times cycles past here row played.unturned in
      let is = fresh-is m.channels plan times cycles past here fresh next goes in
      let before = before-is m.channels plan times cycles past here fresh next goes in
      let last = last-of d m (Rules past) here row played.last in
      let ruled = last.ruled goes in
      let mark : row.fresh ≡ fresh = ruled.2 ∙ sym is in
      let run = strict d m offer plan times cycles past (here ++ row ∷ []) played.last played.unturned in
      let gates : AreGates (sizes_of m.channels) plan (all_rows past here) (length (all_rows past here)) fresh row.gates =
      subst (λ f. AreGates (sizes_of m.channels) plan (all_rows past here) (length (all_rows past here)) f row.gates) (sym is) ruled.1 in
      let keeps = run-keeps (not (is_nil past)) d m (offers_behind (offers_after m.channels offer) past) (gates_behind m.channels plan past)
      (here ++ row ∷ []) stay-behind (gates-stay m.channels plan past) run stable in
      record {
        over = last.over;
        mark = mark;
        carries = carries-each m.channels (offer (all_rows past here)) (lasts.fits (all_rows past here)) row ruled.0;
        ends = last.marked.ends;
        follows = record {
          mark = ap (λ b. room.resets && b) mark ∙ mark-is fresh room.resets (λ t. stands.resets ∙ stands.turns t);
          gates = one-set (sizes_of m.channels) plan (all_rows past here) (length (all_rows past here)) fresh row.gates room.gates gates
              stands.gates;
          marked = subst (λ (o : Option Row). IsMarked o row) (sym before) last.marked;
          stays = λ c h. shown (row_before here (length here)) refl keeps c (ap (λ (o : Option Row). flies_after o c) (sym before) ∙ h);
        };
      }
    where
      shown : (o : Option Row) → row_before here (length here) ≡ o → KeepsContents m.channels (here ++ row ∷ []) → (c : ℕ)
          → flies_after o c ≡ true → sink_valid row c ≡ true
      shown None e keeps c h = absurd (false≢true h)
      shown (Some b) e keeps c h = (keeps (length here) b row (before-append here row (length here) (omega arith) ∙ e)
          (slice_get-last here row) c h).valid

  pub next-row : AreRuledStretches m Rules Turn past (here ++ row ∷ [])
      → IsNext m.channels (offer (all_rows past here)) room (all_rows past here) fresh row
  next-row are = record {
    over = over-last m Rules Turn past here row are;
    mark = ∥∥₁_elim are.played (hlevel props) (λ (x : Played). (one x).mark);
    carries = ∥∥₁_elim are.played (hlevel props) (λ (x : Played). (one x).carries);
    ends = ∥∥₁_elim are.played (hlevel props) (λ (x : Played). (one x).ends);
    follows = ∥∥₁_elim are.played (hlevel props) (λ (x : Played). (one x).follows);
  }
    where
      one : Played → IsNext m.channels (offer (all_rows past here)) room (all_rows past here) fresh row
      one x = next-one x.0 are.stable.last x.1

-- ---- what is given
module _ (channels : List Channel) (current : ℕ → Offer) (given : Gated) (same : given.offers ≡ offers_on channels current) where
  pub given-fits : AllFit channels current → given.gates < 2 ^ length channels → FitsGates channels given
  given-fits fits below = record {
    offers = subst (AreOffers channels) (sym same) (are-offers channels current fits);
    zeros = subst (Rows.AreZeroWhileDown channels) (sym same) (are-zero channels current fits);
    gates = below;
  }

  pub given-long : AllFit channels current → length given.offers.contents ≡ length (all_widths channels)
  given-long fits =
      let are = subst (AreOffers channels) (sym same) (are-offers channels current fits) in
      sym (fit-length (all_widths channels) given.offers.contents are.contents)

  pub given-ruled : (offer : List Row → ℕ → Offer) (plan : Plan) (times : List ℕ) (cycles : ℕ) (room : Ledger) (past : List (List Row))
      (here : List Row) (fresh : Bool) (row : Row) → ((c : ℕ) → current c ≡ offer (all_rows past here) c) → given.gates ≡ room.gates
      → StandsAfter (sizes_of channels) plan (all_rows past here) fresh room → IsNextFresh channels plan times cycles past here fresh
      → IsGatedRow channels given row → row.fresh ≡ is_fresh_behind past here → rule_within channels offer plan times cycles past here row
  given-ruled offer plan times cycles room past here fresh row now up stands next is marked goes = (
    subst (λ (os : Offers). Rows.Carries channels os row) (same ∙ ap (offers_on channels) (λ i c. now c i)) is.carries,
    subst (gates_behind channels plan past here) (sym (is.gates_are ∙ up))
        (subst (λ f. AreGates (sizes_of channels) plan (all_rows past here) (length (all_rows past here)) f room.gates)
        (fresh-is channels plan times cycles past here fresh next goes) stands.gates),
    marked,
  )

pub carries-now : (channels given : List Channel) (current offered : ℕ → Offer) (row : Row) → given ≡ channels
    → ((c : ℕ) → current c ≡ offered c) → Carries channels offered row → Carries given current row
carries-now channels given current offered row same now is =
    subst (λ (cs : List Channel). Carries cs current row) (sym same)
    (subst (λ (o : ℕ → Offer). Carries channels o row) (sym (λ i c. now c i)) is)
