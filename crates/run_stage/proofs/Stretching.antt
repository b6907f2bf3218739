-- Stretches of played rows, one row or one reset longer.
use Rattle.std.proofs.Common.{◌≡◌, ℕ, ◌+◌, ◌<◌, ◌≤◌, Bool, false, List, [], ◌∷◌, ◌++◌, Some, None, Result, Err, IfErr, All}
use Rattle.std.proofs.Common.{length, slice_get, take, append_assoc, refl, ap, sym, subst, ◌∙◌, arith, ⊎_elim}
use Rattle.std.proofs.Math.Logic.{∥∥₁_elim, ∥∥₁_map}
use Rattle.std.proofs.lemmas.Bool.{cases_lt}
use Rattle.std.proofs.lemmas.List.{append-nil, length_push, take-append-le, take_all}
use Rattle.std.proofs.lemmas.List.Concat.{length-flat_map}
use Rattle.std.proofs.lemmas.List.Elements.{All-append, All-cons, All-nil}
use Rattle.chan_replayer.specs.trace_model.declared.channel.Channel.{Channel}
use Rattle.chan_replayer.specs.trace_model.declared.row.Row.{Row}
use Rattle.chan_replayer.specs.trace_model.Row.{row_before, IsOver}
use Rattle.chan_replayer.specs.trace_model.Stability.{IsLowestUnstable}
use Rattle.chan_replayer.proofs.trace_model_lemmas.CountingLemmas.{slice_get-push}
use Rattle.net_design.specs.declared.design.Design.{Design}
use Rattle.net_design.specs.declared.values.Values.{Values}
use Rattle.chan_replayer.specs.chan_map.declared.pins.Map.{Map}
use Rattle.chan_replayer.specs.run_model.Played.{AreStable, IsPlayed, StopsBefore}
use Rattle.chan_replayer.specs.run_model.Step.{IsFirst, IsStep}
use Rattle.chan_replayer.specs.run_model.Stretches.{IsTurned, IsUnturned, and_stretch, row_count, rows_of}
use Rattle.chan_replayer.proofs.run_model_lemmas.PlayedLaws.{Grown, played-nil, played-push}
use Rattle.run_stage.specs.Playing.{IsLast, IsShown}
use Rattle.run_stage.specs.Stretching.{all_rows, is_fresh_behind, AllAreStable, ArePlayed, AreRuledStretches, BeginsBehind, GoesOn, GoesTo}
use Rattle.run_stage.specs.Stretching.{IsAsked, PlayStretches}
use Rattle.run_stage.proofs.Turning.{last-of, last-push, over_prop, stable-nil, stable-push, unstable-now}

-- ---- stretches
pub unturned-push : (turns : List (List Row) → List Row → Type 0) (past : List (List Row)) (here : List Row) (row : Row)
    → IsUnturned turns past here → GoesOn turns past here → IsUnturned turns past (here ++ row ∷ [])
unturned-push turns past here row unturned on k some l h =
    let long = length_push here row in
    let front : take k (here ++ row ∷ []) ≡ take k here = take-append-le k here (row ∷ []) (omega (arith, l, long)) in
    let at : turns past (take k here) = subst (turns past) front h in
    ⊎_elim
    (λ (b : k < length here). unturned k some b at)
    (λ (b : length here ≤ k). on (omega (arith, some, l, long, b)) (subst (turns past) (take_all k here b) at))
    (cases_lt k (length here))

pub unturned-nil : (turns : List (List Row) → List Row → Type 0) (past : List (List Row)) → IsUnturned turns past []
unturned-nil turns past k some l h = absurd (omega (arith, l))

-- the stretches before, with one more
module _ (d : Design) (m : Map) (rule : List (List Row) → List Row → Row → Type 0) (turns : List (List Row) → List Row → Type 0)
    (past : List (List Row)) (here : List Row) (played : ArePlayed d m rule turns past here) (some : 0 < length here)
    (turned : turns past here) where
  abbrev Turned : List (List Row) → List Row → Type 0
  Turned = IsTurned (λ (p : List (List Row)). IsPlayed d m (rule p)) turns

  now : Turned past here
  now = record { is = played.last; some = some; turns = turned; unturned = played.unturned }

  pub before-push : (k : ℕ) (rows : List Row) → slice_get (and_stretch past here) k ≡ Some rows → Turned (take k (and_stretch past here)) rows
  before-push k rows at = ⊎_elim
      (λ (h : (k < length past) × (slice_get past k ≡ Some rows)).
      (let l = h.0 in
      subst (λ (p : List (List Row)). Turned p rows) (sym (take-append-le k past (here ∷ []) (omega (arith, l)))) (played.before k rows h.1)))
      (λ (h : (k ≡ length past) × (here ≡ rows)).
      (let e = h.0 in
      let front : take k (and_stretch past here) ≡ past =
      take-append-le k past (here ∷ []) (omega (arith, e)) ∙ take_all k past (omega (arith, e)) in
      subst (λ (p : List (List Row)). Turned p rows) (sym front) (subst (Turned past) h.1 now)))
      (slice_get-push past here rows k at)

pub all-push : (P : List Row → Type 0) (past : List (List Row)) (here : List Row) → All P past → P here → All P (and_stretch past here)
all-push P past here all h = All-append P past (here ∷ []) all (All-cons P here [] h (All-nil P))

pub rows-push : (past : List (List Row)) (here : List Row) → rows_of (and_stretch past here) ≡ rows_of past ++ here
rows-push [] here = append-nil here
rows-push (rows ∷ past) here = ap (λ rs. rows ++ rs) (rows-push past here) ∙ sym (append_assoc rows (rows_of past) here)

-- all rows are the same, whether a reset comes or not
pub all-same : (past : List (List Row)) (here : List Row) → all_rows (and_stretch past here) [] ≡ all_rows past here
all-same past here = append-nil (rows_of (and_stretch past here)) ∙ rows-push past here

pub all-more : (past : List (List Row)) (here : List Row) (row : Row) → all_rows past here ++ row ∷ [] ≡ all_rows past (here ++ row ∷ [])
all-more past here row = append_assoc (rows_of past) here (row ∷ [])

pub count-all : (past : List (List Row)) (here : List Row) → row_count (and_stretch past here) ≡ length (all_rows past here)
count-all past here = sym (length-flat_map (λ (rows : List Row). rows) (and_stretch past here)) ∙ ap length (rows-push past here)

pub lone-row : (rows : List Row) → length rows ≡ 1 → (row : Row) × (rows ≡ row ∷ [])
lone-row [] l = absurd (omega (arith, l))
lone-row (row ∷ []) l = (row, refl)
lone-row (row ∷ other ∷ rows) l = absurd (omega (arith, l))

pub all-longer : (past : List (List Row)) (here : List Row) (row : Row) → length (all_rows past (here ++ row ∷ [])) ≡ length (all_rows past here) + 1
all-longer past here row = ap length (sym (append_assoc (rows_of past) here (row ∷ []))) ∙ length_push (all_rows past here) row

-- ---- one row more
module _ (d : Design) (m given : Map) (rule : List (List Row) → List Row → Row → Type 0) (turns : List (List Row) → List Row → Type 0)
    (allows : List Row → Row → Type 0) (runs : Design → Values → List (List Row) → List Row → Type 0) (past : List (List Row)) (here : List Row)
    (last row : Row) (same : given ≡ m) (ruled : (r : Row) → allows here r → r.fresh ≡ is_fresh_behind past here → rule past here r)
    (at : PlayStretches d m rule turns runs last past here)
    (shown : (s : Values) (before : List (List Row)) (rows : List Row) → runs d s before rows → IsShown d given s rows allows row)
    (marked : row.fresh ≡ is_fresh_behind past here) where
  abbrev state : Values
  state = at.played.last.driven.state (length here)

  shows : IsShown d m state here allows row
  shows = subst (λ (b : Map). IsShown d b state here allows row) same (shown state past here at.at)

  grown : (after : Values) → IsStep d m state row after → Grown d m (rule past) (here ++ row ∷ []) after
  grown after step = played-push d m (rule past) here row after at.played.last (ruled row shows.allowed marked) shows.over shows.marked step

  pub stops : (c : ℕ) → IsLowestUnstable m.channels last row (Some c) → StopsBefore d m (rule past) here c
  stops c low = record {
    next = row;
    played = (grown shows.after shows.step).played;
    stable = at.stable.last;
    unstable = unstable-now m.channels here last row c at.last_is low;
  }

  next-row : (after_runs : Design → Values → List (List Row) → List Row → Type 0) (n : Map) → n ≡ m → GoesOn turns past here
      → ((s : Values) (before : List (List Row)) → runs d s before here → GoesTo after_runs d n s before here row)
      → IsLowestUnstable m.channels last row None → PlayStretches d m rule turns after_runs row past (here ++ row ∷ [])
  next-row after_runs n e on next none =
      let to = next state past at.at in
      let g = grown to.0 (subst (λ (b : Map). IsStep d b state row to.0) e to.1) in
      record {
        played = record { before = at.played.before; last = g.played; unturned = unturned-push turns past here row at.played.unturned on };
        at = subst (λ (s : Values). after_runs d s past (here ++ row ∷ [])) (sym g.state) to.2;
        stable = record { before = at.stable.before; last = stable-push m.channels here last row at.stable.last at.last_is none };
        last_is = last-push here row row refl;
      }

  pub next : (kept : Row) → kept ≡ row → (after_runs : Design → Values → List (List Row) → List Row → Type 0) (n : Map) → n ≡ m
      → GoesOn turns past here → ((s : Values) (before : List (List Row)) → runs d s before here → GoesTo after_runs d n s before here row)
      → IsLowestUnstable m.channels last row None → PlayStretches d m rule turns after_runs kept past (here ++ kept ∷ [])
  next kept k after_runs n e on goes none = subst (λ (r : Row). PlayStretches d m rule turns after_runs r past (here ++ r ∷ [])) (sym k)
      (next-row after_runs n e on goes none)

-- ---- behind a reset
pub all-stable_nil : (channels : List Channel) → AllAreStable channels [] []
all-stable_nil channels = record { before = All-nil (AreStable channels); last = stable-nil channels }

pub first : (d : Design) (m : Map) (rule : List (List Row) → List Row → Row → Type 0) (turns : List (List Row) → List Row → Type 0)
    (runs : Design → Values → List (List Row) → List Row → Type 0) (last : Row) → last.valids ≡ 0 → BeginsBehind d m runs []
    → PlayStretches d m rule turns runs last [] []
first d m rule turns runs last silent (s, is, on) =
    let g = played-nil d m (rule []) s is in
    record {
      played = record { before = λ k rows at. absurd (cc); last = g.played; unturned = unturned-nil turns [] };
      at = subst (λ (v : Values). runs d v [] []) (sym g.state) on;
      stable = all-stable_nil m.channels;
      last_is = silent;
    }

pub turned : (d : Design) (m given : Map) (rule : List (List Row) → List Row → Row → Type 0) (turns : List (List Row) → List Row → Type 0)
    (runs then : Design → Values → List (List Row) → List Row → Type 0) (was last : Row) (past : List (List Row)) (here : List Row)
    → given ≡ m → last.valids ≡ 0 → 0 < length here → turns past here
    → ((s : Values) → runs d s past here → BeginsBehind d given then (and_stretch past here))
    → PlayStretches d m rule turns runs was past here → PlayStretches d m rule turns then last (and_stretch past here) []
turned d m given rule turns runs then was last past here same silent some turn resets at =
    let b = resets (at.played.last.driven.state (length here)) at.at in
    let g = played-nil d m (rule (and_stretch past here)) b.0 (subst (λ (n : Map). IsFirst d n b.0) same b.1) in
    record {
      played = record {
        before = before-push d m rule turns past here at.played some turn;
        last = g.played;
        unturned = unturned-nil turns (and_stretch past here);
      };
      at = subst (λ (v : Values). then d v (and_stretch past here) []) (sym g.state) b.2;
      stable = record { before = all-push (AreStable m.channels) past here at.stable.before at.stable.last; last = stable-nil m.channels };
      last_is = silent;
    }

-- ---- where a stage goes on behind the same rows
pub stays : (d : Design) (m : Map) (rule : List (List Row) → List Row → Row → Type 0) (turns : List (List Row) → List Row → Type 0)
    (runs then : Design → Values → List (List Row) → List Row → Type 0) (last : Row) (past : List (List Row)) (here : List Row)
    → ((s : Values) → runs d s past here → then d s past here) → PlayStretches d m rule turns runs last past here
    → PlayStretches d m rule turns then last past here
stays d m rule turns runs then last past here on at = record {
  played = at.played;
  at = on (at.played.last.driven.state (length here)) at.at;
  stable = at.stable;
  last_is = at.last_is;
}

pub over-last : (m : Map) (rule : List (List Row) → List Row → Row → Type 0) (turns : List (List Row) → List Row → Type 0)
    (past : List (List Row)) (here : List Row) (row : Row) → AreRuledStretches m rule turns past (here ++ row ∷ []) → IsOver m.channels row
over-last m rule turns past here row are = ∥∥₁_elim are.played (over_prop m.channels row)
    (λ (x : (d : Design) × ArePlayed d m rule turns past (here ++ row ∷ [])). (last-of x.0 m (rule past) here row x.1.last).over)

-- ---- whatever the design
pub ruled-of : (m : Map) (rule : List (List Row) → List Row → Row → Type 0) (turns : List (List Row) → List Row → Type 0)
    (runs begun : Design → Values → List (List Row) → List Row → Type 0) (last : Row) (past : List (List Row)) (here : List Row)
    → ∥ ((d : Design) × BeginsBehind d m begun []) ∥₁ → ((d : Design) → BeginsBehind d m begun [] → PlayStretches d m rule turns runs last past here)
    → AllAreStable m.channels past here → AreRuledStretches m rule turns past here
ruled-of m rule turns runs begun last past here some plays stable = record {
  played = ∥∥₁_map {B = (d : Design) × ArePlayed d m rule turns past here} some
      (λ (x : (d : Design) × BeginsBehind d m begun []). (x.0, (plays x.0 x.1).played));
  stable = stable;
}

-- ---- no shorter front
abbrev pub Going : (List (List Row) → List Row → Bool → Type 0) → List (List Row) → List Row → Type 0
Going ends past here = (k : ℕ) → k < length here → IsAsked past k → ends past (take k here) false

abbrev pub GoingBefore : (List (List Row) → List Row → Bool → Type 0) → List (List Row) → Type 0
GoingBefore ends past = (i : ℕ) (rows : List Row) → slice_get past i ≡ Some rows → (k : ℕ) → k ≤ length rows → IsAsked (take i past) k
    → ends (take i past) (take k rows) false

-- here and in the stretches before
pub going-push : (ends : List (List Row) → List Row → Bool → Type 0) (past : List (List Row)) (here : List Row) (row : Row)
    → Going ends past here → (IsAsked past (length here) → ends past here false) → Going ends past (here ++ row ∷ [])
going-push ends past here row going now k l asked =
    let long = length_push here row in
    let front : take k (here ++ row ∷ []) ≡ take k here = take-append-le k here (row ∷ []) (omega (arith, l, long)) in
    subst (λ (rs : List Row). ends past rs false) (sym front)
    (⊎_elim (λ (b : k < length here). going k b asked)
    (λ (b : length here ≤ k). (let e : k ≡ length here = omega (arith, l, long, b) in
    subst (λ (rs : List Row). ends past rs false) (sym (take_all k here b)) (now (subst (IsAsked past) e asked))))
    (cases_lt k (length here)))

pub going-turned : (ends : List (List Row) → List Row → Bool → Type 0) (past : List (List Row)) (here : List Row)
    → Going ends past here → GoingBefore ends past → ends past here false → GoingBefore ends (and_stretch past here)
going-turned ends past here going before now i rows at k l asked = ⊎_elim
    (λ (h : (i < length past) × (slice_get past i ≡ Some rows)).
    (let w = h.0 in
    let front : take i (and_stretch past here) ≡ take i past = take-append-le i past (here ∷ []) (omega (arith, w)) in
    subst (λ (p : List (List Row)). ends p (take k rows) false) (sym front)
    (before i rows h.1 k l (subst (λ (p : List (List Row)). IsAsked p k) front asked))))
    (λ (h : (i ≡ length past) × (here ≡ rows)).
    (let e = h.0 in
    let front : take i (and_stretch past here) ≡ past =
    take-append-le i past (here ∷ []) (omega (arith, e)) ∙ take_all i past (omega (arith, e)) in
    let asks : IsAsked past k = subst (λ (p : List (List Row)). IsAsked p k) front asked in
    let l' : k ≤ length here = subst (λ (rs : List Row). k ≤ length rs) (sym h.1) l in
    subst (λ (p : List (List Row)). ends p (take k rows) false) (sym front)
    (subst (λ (rs : List Row). ends past (take k rs) false) h.1
    (⊎_elim
    (λ (b : k < length here). going k b asks)
    (λ (b : length here ≤ k). subst (λ (rs : List Row). ends past rs false) (sym (take_all k here b)) now)
    (cases_lt k (length here))))))
    (slice_get-push past here rows i at)

-- ---- whether the player is done
pub ends-now : (m : Map) (rule : List (List Row) → List Row → Row → Type 0) (turns : List (List Row) → List Row → Type 0)
    (ends : List (List Row) → List Row → Bool → Type 0) (given : Map) → given ≡ m → (past : List (List Row)) (here : List Row)
    (last : Row) (r said : Bool) → r ≡ said
    → (AreRuledStretches given rule turns past here → IsLast (row_before here (length here)) last → ends past here r) → AreRuledStretches m rule turns past here
    → IsLast (row_before here (length here)) last → ends past here said
ends-now m rule turns ends given same past here last r said e says ruled is = subst (ends past here) e
    (says (subst (λ (n : Map). AreRuledStretches n rule turns past here) (sym same) ruled) is)

-- an answer that is this fault
pub fault-as : {A E : Type 0} (r : Result A E) (fault : E) → ((y : E) × (r ≡ Err y) × (y ≡ fault)) → (Q : E → Type 0) → Q fault → IfErr r Q
fault-as {A} {E} r fault (y, is, same) Q holds = subst (λ (x : Result A E). IfErr x Q) (sym is) (subst Q (sym same) holds)
