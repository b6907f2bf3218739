-- The player of a plain run between two cycles, and what its run is.
use Rattle.std.proofs.Common.{◌≡◌, ℕ, ◌+◌, ◌<◌, ◌≤◌, ◌⊎◌, ◌^◌, not, cond, Bool, true, false, List, [], ◌∷◌, ◌++◌, Option, Some, All, length, slice_get}
use Rattle.std.proofs.Common.{inl, inr, ⊎_elim, refl, ap, sym, subst, ◌∙◌, append_assoc, arith}
use Rattle.std.proofs.Common.{Result, Ok, Err}
use Rattle.std.specs.Prelude.{OnErr, IfErr, IfOk}
use Rattle.std.proofs.Math.Logic.{∥∥₁_elim}
use Rattle.std.proofs.Props.{props}
use Rattle.std.proofs.lemmas.List.{append-nil, length_push}
use Rattle.std.proofs.lemmas.List.Concat.{length-flat_map}
use Rattle.std.proofs.lemmas.List.Elements.{All-nil}
use Rattle.run_stage.specs.chan_monitor.vidi_bits.Findings.{is_nil}
use Rattle.env_script.specs.trace_model.declared.channel.Channel.{Channel}
use Rattle.env_script.specs.trace_model.declared.row.Offers.{Offers}
use Rattle.env_script.specs.trace_model.declared.row.Row.{Row}
use Rattle.env_script.specs.trace_model.Epoch.{restarts}
use Rattle.env_script.specs.trace_model.Row.{all_widths, row_before, AreOffers}
use Rattle.env_script.proofs.trace_model_lemmas.ContentsLemmas.{fit-length}
use Rattle.env_script.proofs.trace_model_lemmas.CountingLemmas.{count-push}
use Rattle.net_design.specs.declared.design.Design.{Design}
use Rattle.net_design.specs.declared.values.Values.{Values}
use Rattle.run_stage.specs.chan_map.declared.pins.Map.{Map}
use Rattle.run_stage.specs.run_model.Offers.{AreZeroWhileDown, Carries as RunCarries}
use Rattle.run_stage.specs.run_model.Played.{all_up, AreStable, StopsBefore}
use Rattle.run_stage.specs.run_model.Run.{AllUp, IsStretchRow}
use Rattle.run_stage.specs.run_model.Step.{IsFirst}
use Rattle.run_stage.specs.run_model.Stretches.{and_stretch, offers_behind, row_count, rows_of, Turns}
use Rattle.run_stage.proofs.run_model_lemmas.PlayedLaws.{played-nil}
use Rattle.run_stage.proofs.run_model_lemmas.ReplayLaws.{all-up-below}
use Rattle.run_laws.proofs.Behind.{run-of, stop-of}
use Rattle.env_script.specs.Offer.{Offer, Carries, EndsAreCompletions, FitsOffer}
use Rattle.env_script.specs.Offered.{offers_after, offers_on, AllFit}
use Rattle.env_script.specs.Resets.{is_due, is_due_behind}
use Rattle.env_script.proofs.OfferLaws.{are-offers, are-zero, carries-each}
use Rattle.run_stage.specs.declared.ending.Ending.{Ending}
use Rattle.run_stage.specs.declared.ending.Ending.TheVariants.{Whole, Done, Unstable}
use Rattle.run_stage.specs.declared.given.Gated.{Gated}
use Rattle.run_stage.specs.Given.{FitsGates, IsGatedRow}
use Rattle.run_stage.specs.Stretching.{all_rows, is_fresh_behind, AllAreStable, ArePlayed, AreRuledStretches, CameBehind, IsAsked, StopIn}
use Rattle.run_stage.proofs.Stretching.{all-push, all-same, count-all, rows-push, unturned-nil, unturned-push}
use Rattle.run_stage.proofs.Turning.{last-of, stable-nil}
use Rattle.bench_run.specs.Playing.{HasBegun}
use Rattle.bench_run.specs.Plain.{spot_of, AreRunAllUp, GoesOn, IsBehind, IsPlainRun, StandsBehind, StandsWithin}
use Rattle.bench_run.specs.declared.plain.Spot.{Spot}

-- ---- what the environment offers now
abbrev pub rule : Map → (List Row → ℕ → Offer) → List (List Row) → List Row → Row → Type 0
rule m offer past = IsStretchRow (not (is_nil past)) m.channels (offers_behind (offers_after m.channels offer) past) (AllUp m.channels)

abbrev pub due : List ℕ → List (List Row) → List Row → Type 0
due resets = Turns (is_due_behind resets)

ext : (f h : ℕ → Offer) → ((c : ℕ) → f c ≡ h c) → f ≡ h
ext f h e = λ i c. e c i

pub fits-now : (channels given : List Channel) (current offer : ℕ → Offer) → given ≡ channels → ((c : ℕ) → current c ≡ offer c)
    → ((c : ℕ) (x : Channel) → slice_get given c ≡ Some x → FitsOffer x (offer c)) → AllFit channels current
fits-now channels given current offer same e fit = subst (λ (cs : List Channel). AllFit cs current) same
    (λ c x at. subst (FitsOffer x) (sym (e c)) (fit c x at))

-- ---- what is given
module _ (channels : List Channel) (current : ℕ → Offer) (given : Gated) (offers : given.offers ≡ offers_on channels current)
    (gates : given.gates ≡ all_up channels) where
  pub given-fits : AllFit channels current → FitsGates channels given
  given-fits fits = record {
    offers = subst (AreOffers channels) (sym offers) (are-offers channels current fits);
    zeros = subst (AreZeroWhileDown channels) (sym offers) (are-zero channels current fits);
    gates = subst (λ n. n < 2 ^ length channels) (sym gates) (all-up-below (length channels));
  }

  pub given-ruled : (offer : List Row → ℕ → Offer) (past : List (List Row)) (here : List Row) (row : Row)
      → ((c : ℕ) → current c ≡ offer (all_rows past here) c) → IsGatedRow channels given row → row.fresh ≡ is_fresh_behind past here
      → IsStretchRow (not (is_nil past)) channels (offers_behind (offers_after channels offer) past) (AllUp channels) here row
  given-ruled offer past here row now is marked = (
    subst (λ os. RunCarries channels os row) (offers ∙ ap (offers_on channels) (ext current (offer (all_rows past here)) now)) is.carries,
    is.gates_are ∙ gates,
    marked,
  )

pub offers-long : (channels given : List Channel) (current : ℕ → Offer) (offers : Offers) → offers ≡ offers_on channels current
    → given ≡ channels → AllFit channels current → length offers.contents ≡ length (all_widths given)
offers-long channels given current offers e same fits =
    let are = subst (AreOffers channels) (sym e) (are-offers channels current fits) in
    sym (fit-length (all_widths channels) offers.contents are.contents) ∙ ap (λ (cs : List Channel). length (all_widths cs)) (sym same)

-- ---- the row that is kept
module _ (m : Map) (offer : List Row → ℕ → Offer) (resets : List ℕ) (past : List (List Row)) (here : List Row) (row : Row)
    (are : AreRuledStretches m (rule m offer) (due resets) past (here ++ row ∷ [])) where
  abbrev Played : Type 0
  Played = (d : Design) × ArePlayed d m (rule m offer) (due resets) past (here ++ row ∷ [])

  pub carries-last : (given : List Channel) (current : ℕ → Offer) → given ≡ m.channels → ((c : ℕ) → current c ≡ offer (all_rows past here) c)
      → AllFit m.channels (offer (all_rows past here)) → Carries given current row
  carries-last given current same now fit = subst (λ (cs : List Channel). Carries cs current row) (sym same)
      (subst (λ (o : ℕ → Offer). Carries m.channels o row) (sym (ext current (offer (all_rows past here)) now)) carries)
    where
      carries : Carries m.channels (offer (all_rows past here)) row
      carries = ∥∥₁_elim are.played (hlevel props) (λ (x : Played).
          carries-each m.channels (offer (all_rows past here)) fit row (last-of x.0 m (rule m offer past) here row x.1.last).ruled.0)

  pub ends-last : EndsAreCompletions row
  ends-last = ∥∥₁_elim are.played (hlevel props) (λ (x : Played). (last-of x.0 m (rule m offer past) here row x.1.last).marked.ends)

-- one row more

pub longer : (rows : List Row) (row : Row) (n : ℕ) → length rows ≡ n → n + 1 ≡ length (rows ++ row ∷ [])
longer rows row n e = let l = length_push rows row in omega (arith, l, e)

pub fresher : (rows : List Row) (row : Row) (n k : ℕ) → n ≡ restarts rows → k ≡ cond row.fresh 1 0 → n + k ≡ restarts (rows ++ row ∷ [])
fresher rows row n k e f = let c = count-push (λ (r : Row). r.fresh) rows row in omega (arith, c, e, f)

-- whether a reset is due is told by the counts
pub said-due : (times given : List ℕ) (came count : ℕ) (past : List (List Row)) (here : List Row) → given ≡ times
    → came ≡ restarts (all_rows past here) → count ≡ length (all_rows past here)
    → is_due_behind times (all_rows past here) ≡ is_due given came count
said-due times given came count past here same e f =
    ap (λ k. is_due times k (length (all_rows past here))) (sym e) ∙ ap (λ k. is_due times came k) (sym f)
    ∙ ap (λ ts. is_due ts came count) (sym same)

-- the rows of all stretches

-- ---- its end
module _ (d : Design) (m : Map) (offer : List Row → ℕ → Offer) (resets : List ℕ) (past : List (List Row)) (here : List Row)
    (played : ArePlayed d m (rule m offer) (due resets) past here) (asked : IsAsked past (length here)) where
  some : 0 < length past → 0 < length here
  some l = ⊎_elim
      (λ (e : past ≡ []). (let n = ap (λ (p : List (List Row)). length p) e in absurd (omega (arith, n, l))))
      (λ (h : 0 < length here). h)
      asked

  pub are-run : AreRunAllUp d m offer resets (and_stretch past here)
  are-run = run-of d m (offers_after m.channels offer) (λ before. AllUp m.channels) (is_due_behind resets) past here played.before played.last
      played.unturned some

  pub plain-behind : (runs : Design → Values → Option Row → Type 0) → runs d (played.last.driven.state (length here)) (row_before here (length here))
      → GoesOn runs d m offer resets (all_rows past here)
  plain-behind runs at = record { past = past; here = here; rows_are = refl; played = are-run; last = played.last; at = at }

  pub within : (stands_for : List Row → Type 0) (n : ℕ) → stands_for (all_rows past here) → AllAreStable m.channels past here
      → length (all_rows past here) ≤ n → StandsWithin stands_for d m offer resets n
  within stands_for n stands stable few = record {
    stretches = and_stretch past here;
    stands = subst stands_for (sym (rows-push past here)) stands;
    played = are-run;
    stable = all-push (AreStable m.channels) past here stable.before stable.last;
    few = (let c = count-all past here in omega (arith, c, few));
  }

  plain : (n : ℕ) (ending : Ending) → AllAreStable m.channels past here → CameBehind (λ _ _ over. over ≡ false) n past here ending
      → StopIn d m (rule m offer) (due resets) past here ending
      → IsPlainRun d m offer resets n (record { rows = all_rows past here; unstable = spot_of ending })
  plain n Whole stable came stops = record {
    past = past;
    here = here;
    rows = refl;
    played = (are-run, stable.before, stable.last, came.0);
    cycle = tt;
  }
  plain n (Done cycles) stable came stops = absurd (cc)
  plain n (Unstable channel cycle) stable came stops = record {
    past = past;
    here = here;
    rows = refl;
    played = (
      stop-of d m (offers_after m.channels offer) (λ before. AllUp m.channels) (is_due_behind resets) past here played.before channel
          stable.before stops.0 (unturned-push (due resets) past here stops.0.next played.unturned stops.1),
      came.1,
    );
    cycle = sym came.0;
  }

  pub plain-as : (n : ℕ) (kept : List Row) (ending : Ending) (spot : Option Spot) → kept ≡ all_rows past here → spot ≡ spot_of ending
      → AllAreStable m.channels past here → CameBehind (λ _ _ over. over ≡ false) n past here ending
      → StopIn d m (rule m offer) (due resets) past here ending
      → IsPlainRun d m offer resets n (record { rows = kept; unstable = spot })
  plain-as n kept ending spot e at stable came stops =
      subst (λ (x : Option Spot). IsPlainRun d m offer resets n (record { rows = kept; unstable = x })) (sym at)
      (subst (λ (rs : List Row). IsPlainRun d m offer resets n (record { rows = rs; unstable = spot_of ending })) (sym e)
      (plain n ending stable came stops))

-- ---- a shell as a stage
pub has-begun : (d : Design) (m given : Map) (runs : Design → Values → Option Row → Type 0) → given ≡ m → HasBegun d given runs
    → HasBegun d m runs
has-begun d m given runs same (first, is, on) = (first, subst (λ (n : Map). IsFirst d n first) same is, on)

-- by the answer
pub of-either : {A E : Type 0} (r : Result A E) (P : Type 0) (Q : A → Type 0) (S : E → Type 0) → IfOk r Q → IfErr r S
    → ((x : A) → Q x → P) → ((e : E) → S e → P) → P
of-either (Ok x) P Q S q s f h = f x q
of-either (Err e) P Q S q s f h = h e s

pub if-err : {A E : Type 0} (r : Result A E) (Q S : E → Type 0) → IfErr r Q → ((e : E) → Q e → S e) → IfErr r S
if-err (Ok x) Q S q f = tt
if-err (Err e) Q S q f = f e q

pub nothing-yet : (d : Design) (m given : Map) (offer : List Row → ℕ → Offer) (resets : List ℕ) (n : ℕ)
    (runs : Design → Values → Option Row → Type 0) (stands_for : List Row → Type 0) → given ≡ m → HasBegun d given runs → stands_for []
    → StandsWithin stands_for d m offer resets n
nothing-yet d m given offer resets n runs stands_for same begun stands =
    let run = (played-nil d m (rule m offer []) begun.0 (subst (λ (k : Map). IsFirst d k begun.0) same begun.1)).played in
    within d m offer resets [] [] (record { before = λ k rows at. absurd (cc); last = run; unturned = unturned-nil (due resets) [] }) (inl refl)
    stands_for n stands (record { before = All-nil (AreStable m.channels); last = stable-nil m.channels }) (omega arith)

pub plain-also : (d : Design) (m : Map) (offer : List Row → ℕ → Offer) (resets : List ℕ) (n : ℕ) (rows kept : List Row)
    (was spot : Option Spot) → kept ≡ rows → spot ≡ was → IsPlainRun d m offer resets n (record { rows = rows; unstable = was })
    → IsPlainRun d m offer resets n (record { rows = kept; unstable = spot })
plain-also d m offer resets n rows kept was spot e at is =
    subst (λ (x : Option Spot). IsPlainRun d m offer resets n (record { rows = kept; unstable = x })) (sym at)
    (subst (λ (rs : List Row). IsPlainRun d m offer resets n (record { rows = rs; unstable = was })) (sym e) is)

pub err-any : {A E P : Type 0} (r : Result A E) → P → IfErr r (λ _. P)
err-any (Ok x) p = tt
err-any (Err e) p = p

pub if-error : {T E P Q : Type 0} (r : Result T E) → OnErr r P → (P → Q) → OnErr r Q
if-error (Ok x) p then = tt
if-error (Err e) p then = then p

-- ---- the block that the shell borrows
pub stands-behind : (state : Values) (At : Values → List Row → Type 0) (d : Design) (m : Map) (offer : List Row → ℕ → Offer)
    (resets : List ℕ) (rows : List Row) (on : IsBehind At d m offer resets rows)
    → state ≡ on.last.driven.state (length on.here) → StandsBehind state d m offer resets rows
stands-behind state At d m offer resets rows on is = record {
  past = on.past;
  here = on.here;
  rows_are = on.rows_are;
  played = on.played;
  last = on.last;
  at = sym is;
}
