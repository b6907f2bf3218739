-- A script's offers: those at the places, those that fit, and those that stay.
use Rattle.std.proofs.Common.{◌≡◌, ℕ, suc, ◌+◌, ◌-◌, ◌<◌, ◌≤◌, true, false, List, [], ◌∷◌, ◌++◌, length, Option, Some, None}
use Rattle.std.proofs.Common.{refl, sym, ap, ◌∙◌, arith, inl, inr, leb, leb-false, length-append}
use Rattle.std.specs.Prelude.{slice_get}
use Rattle.std.proofs.lemmas.List.{get_or_past}
use Rattle.std.proofs.lemmas.Option.{slice_get_cases, slice_get_within}
use Rattle.run_model.proofs.trace_model_lemmas.RowLaws.{flag}
use Rattle.run_model.specs.trace_model.declared.channel.Channel.{Channel}
use Rattle.run_model.specs.trace_model.declared.row.Row.{Row}
use Rattle.run_model.specs.trace_model.Row.{completes}
use Rattle.env_script.specs.declared.script.Step.{Step}
use Rattle.env_script.specs.declared.script.Step.TheVariants.{Send, Take, TakeAll, Wait, After}
use Rattle.env_script.specs.declared.script.Script.{Script}
use Rattle.env_script.specs.Fits.{steps_of, StepFits, FitsChannels}
use Rattle.env_script.specs.declared.place.Place.{Place}
use Rattle.env_script.specs.Offer.{FitsOffer}
use Rattle.env_script.specs.ScriptOffer.{completions, is_over, first_cycle, reach_next, reach, last_reached, deciding, offer_of}
use Rattle.env_script.specs.ScriptOffer.{script_offer}
use Rattle.env_script.specs.Places.{IsAt, Waited, StandsFor, step_at, offer_at}
use Rattle.env_script.proofs.Counting.{missed, none_passes, not_over_before, push_from}
use Rattle.env_script.proofs.Reach.{reach_by, reach_front, last_is, last_law}

-- ---- what is offered at the places

not_next : (rows : List Row) (c q cycle : ℕ) (step : Option Step) → cycle ≡ length rows → q ≤ length rows
    → ((x : Step) → step ≡ Some x → (u : ℕ) → q ≤ u → u < cycle + 1 → is_over rows c x q u ≡ false)
    → reach_next rows c step (Some q) ≡ None
not_next rows c q cycle None now by waited = refl
not_next rows c q cycle (Some x) now by waited =
    none_passes (is_over rows c x q) q (suc (length rows) - q) (λ u from below. waited x refl u from (omega (arith, below, now)))

at_place : (script : Script) (rows : List Row) (c cycle : ℕ) (place : Place) → cycle ≡ length rows → IsAt rows c (steps_of script c) place
    → Waited rows c (steps_of script c) place (cycle + 1)
    → slice_get (steps_of script c) place.step ≡ deciding rows c (steps_of script c)
at_place script rows c cycle place now at waited =
    let steps = steps_of script c in
    let none : reach rows c steps (suc place.step) ≡ None =
    ap (reach_next rows c (slice_get steps place.step)) at.reached
    ∙ not_next rows c place.reached cycle (slice_get steps place.step) now
    (reach_by rows c steps place.step place.reached at.reached) waited in
    ap (slice_get steps) (sym (last_is rows c steps place.step (length steps) place.reached at.within at.reached none))

pub now_is : (script : Script) (channels : List Channel) (places : List Place) (done : List ℕ) (cycle : ℕ) (rows : List Row)
    → FitsChannels channels script
    → length places ≡ length channels → StandsFor script places done cycle rows
    → (c : ℕ) → offer_at script places c ≡ script_offer script rows c
now_is script channels places done cycle rows fits all stands c = elim (slice_get_cases places c).1 [
  | inl here ↦ let place = here.0 in let at : slice_get places c ≡ Some place = here.2 in
      ap (λ o. offer_of (step_at script c o)) at
      ∙ ap offer_of (at_place script rows c cycle place stands.counts.cycle_is (stands.places_are.at c place at)
      (stands.places_are.waited c place at))
  | inr past ↦ let none : steps_of script c ≡ [] = get_or_past script.steps c [] (omega (arith, past.0, all, fits.lists)) in
      ap (λ o. offer_of (step_at script c o)) past.1 ∙ ap (λ (steps : List Step). offer_of (deciding rows c steps)) (sym none)
]

-- ---- offers fit

offer_fits : (channels : List Channel) (channel : Channel) (step : Option Step)
    → ((x : Step) → step ≡ Some x → StepFits channels channel x) → FitsOffer channel (offer_of step)
offer_fits channels channel None fits = record { inward = λ e. absurd (cc); outward = λ e. absurd (cc); empty = λ e. refl }
offer_fits channels channel (Some (Send content)) fits =
    record { inward = λ e. fits (Send content) refl; outward = λ e. absurd (cc); empty = λ e. absurd (cc) }
offer_fits channels channel (Some (Take n)) fits =
    record { inward = λ e. absurd (cc); outward = λ e. (fits (Take n) refl).0; empty = λ e. refl }
offer_fits channels channel (Some TakeAll) fits =
    record { inward = λ e. absurd (cc); outward = λ e. fits TakeAll refl; empty = λ e. refl }
offer_fits channels channel (Some (Wait n)) fits = record { inward = λ e. absurd (cc); outward = λ e. absurd (cc); empty = λ e. refl }
offer_fits channels channel (Some (After x n)) fits = record { inward = λ e. absurd (cc); outward = λ e. absurd (cc); empty = λ e. refl }

pub all_fit : (channels : List Channel) (script : Script) (rows : List Row) (c : ℕ) (channel : Channel) → FitsChannels channels script
    → slice_get channels c ≡ Some channel → FitsOffer channel (script_offer script rows c)
all_fit channels script rows c channel fits at =
    offer_fits channels channel (deciding rows c (steps_of script c))
    (λ x is. fits.fits c channel at (last_reached rows c (steps_of script c) (length (steps_of script c))) x is)

-- ---- a valid stays

pub record Sends (step : Option Step) : Type 0 where
  pub content : List ℕ
  pub is : step ≡ Some (Send content)

sends : (step : Option Step) → (offer_of step).valid ≡ true → Sends step
sends None e = absurd (cc)
sends (Some (Send content)) e = record { content = content; is = refl }
sends (Some (Take n)) e = absurd (cc)
sends (Some TakeAll) e = absurd (cc)
sends (Some (Wait n)) e = absurd (cc)
sends (Some (After x n)) e = absurd (cc)

open_still : (rows : List Row) (row : Row) (c q : ℕ) (content : List ℕ) → q ≤ length rows → completes row c ≡ false
    → is_over rows c (Send content) q (length rows) ≡ false
    → is_over (rows ++ row ∷ []) c (Send content) q (length (rows ++ row ∷ [])) ≡ false
open_still rows row c q content by unended e =
    let none : completions rows c q (length rows) ≡ 0 = omega (arith, leb-false 1 (completions rows c q (length rows)) e) in
    let still : completions (rows ++ row ∷ []) c q (length (rows ++ row ∷ [])) ≡ 0 =
    omega (arith, push_from rows row c q by, none, ap flag unended) in
    ap (leb 1) still

pub stays_on : (script : Script) (rows : List Row) (row : Row) (c : ℕ) → (script_offer script rows c).valid ≡ true
    → completes row c ≡ false
    → script_offer script (rows ++ row ∷ []) c ≡ script_offer script rows c
stays_on script rows row c up unended =
    let steps = steps_of script c in let more = rows ++ row ∷ [] in
    let j = last_reached rows c steps (length steps) in
    let last = last_law rows c steps (length steps) in let send = sends (slice_get steps j) up in
    let q = last.cycle in let by = reach_by rows c steps j q last.at in
    let inside = slice_get_within steps j (Send send.content) send.is in
    let n : length more ≡ length rows + 1 = length-append rows (row ∷ []) in
    let shut : first_cycle (is_over rows c (Send send.content) q) q (suc (length rows) - q) ≡ None =
    ap (reach_next rows c (Some (Send send.content))) (sym last.at)
    ∙ ap (λ o. reach_next rows c o (reach rows c steps j)) (sym send.is) ∙ last.behind inside in
    let now = missed (is_over rows c (Send send.content) q) q (suc (length rows) - q) (length rows) shut by (omega (arith, by)) in
    let later = open_still rows row c q send.content by unended now in
    let none : reach more c steps (suc j) ≡ None =
    ap (λ o. reach_next more c o (reach more c steps j)) send.is
    ∙ ap (reach_next more c (Some (Send send.content))) (reach_front rows row c steps j q last.at)
    ∙ none_passes (is_over more c (Send send.content) q) q (suc (length more) - q)
    (λ u from below. not_over_before more c (Send send.content) q u (length more) from (omega (arith, below, n, by)) later) in
    ap (λ k. offer_of (slice_get steps k))
    (last_is more c steps j (length steps) q last.within (reach_front rows row c steps j q last.at) none)
