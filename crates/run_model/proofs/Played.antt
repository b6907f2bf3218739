-- Designs that are alike show the same rows.
use Rattle.std.proofs.Common.{◌≡◌, ℕ, ◌↔◌, zero, suc, ◌<◌, ◌≤◌, ◌^◌, Bool, true, false, if◌then◌else◌, List, [], ◌∷◌, ◌++◌, Option, None, Some, map, length, ap, sym, subst, ◌∙◌, arith}
use Rattle.std.specs.Prelude.{slice_index}
use Rattle.std.specs.List.{enumerate_from}
use Rattle.std.proofs.lemmas.Option.{slice_get_within}
use Rattle.chan_map.specs.trace_model.declared.row.Offers.{Offers}
use Rattle.chan_map.specs.trace_model.declared.row.Row.{Row}
use Rattle.net_design.specs.declared.design.Port.{Port}
use Rattle.net_design.specs.declared.design.Direction.TheVariants.{Input, Output}
use Rattle.net_design.specs.declared.design.Design.{Design}
use Rattle.net_design.specs.declared.values.Values.{Values}
use Rattle.net_design.specs.Settled.{pins_of, initial, next}
use Rattle.net_design.specs.Lawful.{IsLawful, IsState}
use Rattle.net_design.specs.Pins.{is_clock, input_limits}
use Rattle.net_design.proofs.StateLaws.{initial_state, next_state}
use Rattle.chan_map.specs.declared.pins.Map.{Map}
use Rattle.chan_map.specs.declared.pins.Reset.{Reset}
use Rattle.run_model.specs.Laws.{GatesOf}
use Rattle.run_model.specs.Pins.{ArePins, silent}
use Rattle.run_model.specs.Step.{IsStep, IsNext, IsAfter, IsAfterReset, Shows}
use Rattle.run_model.specs.Played.{IsDriven, IsPlayed, StopsBefore}
use Rattle.run_model.specs.Run.{IsRunRow, IsTheRun}
use Rattle.run_model.proofs.RowParts.{channel-at}
use Rattle.run_model.specs.Alike.{AreAlike}
use Rattle.run_model.specs.AlikeLaws.{DrivenAlike, RunsAlike}
use Rattle.run_model.proofs.Turned.{turned}

-- the initial state is a state, and so is what comes next
record IsKept (d : Design) : Type 0 where
  begins : IsState d (initial d)
  goes : (v s : Values) → IsState d s → IsState d (next d v s)

lawful-kept : (d : Design) → IsLawful d → IsKept d
lawful-kept d law = record { begins = initial_state d law; goes = λ v s is. next_state d law v s is }

kept-alike : (d e : Design) → AreAlike d e → IsKept d → IsKept e
kept-alike d e alike kept = record {
  begins = subst (IsState e) alike.initial ((alike.states (initial d)).0 kept.begins);
  goes = λ v s is.
      subst (IsState e) (alike.next s v) ((alike.states (next d v s)).0 (kept.goes v s ((alike.states s).1 is)));
}

module _ (d e : Design) (kept : IsKept d) (alike : AreAlike d e) where
  limits-alike : input_limits d ≡ input_limits e
  limits-alike =
      λ i. pins_of Input (alike.ports i)
      (map (λ (p : ℕ × Port). if is_clock (alike.clock i) p.0 then 1 else 2 ^ p.1.width) (enumerate_from 0 (alike.ports i)))

  pins-alike : (m : Map) (resets : Bool) (row : Row) (pins : List ℕ) → ArePins d m resets row pins → ArePins e m resets row pins
  pins-alike m resets row pins are = record {
    fit = record {
      long = are.fit.long ∙ ap length limits-alike;
      each = λ j l. subst (λ (limits : List ℕ). slice_index pins j < slice_index limits j) limits-alike (are.fit.each j l);
    };
    numbers = are.numbers;
  }

  -- ---- the state before row 0
  next-alike : (pins : List ℕ) (s after : Values) → IsState d s → IsNext d pins s after → IsNext e pins s after × IsState d after
  next-alike pins s after is x = (
    record { v = x.v; settled = (alike.settled s x.v pins is).0 x.settled; next = x.next ∙ alike.next s x.v },
    subst (IsState d) (sym x.next) (kept.goes x.v s is),
  )

  after-alike : (pins : List ℕ) (n : ℕ) (s after : Values) → IsState d s → IsAfter d pins n s after
      → IsAfter e pins n s after × IsState d after
  after-alike pins zero s after is same = (same, subst (IsState d) (sym same) is)
  after-alike pins (suc n) s after is (between, some, end) =
      let first = after-alike pins n s between is some in
      let last = next-alike pins between after first.1 end in
      ((between, first.0, last.0), last.1)

  reset-alike : (m : Map) (o : Option Reset) (s : Values) → IsAfterReset d m o s → IsAfterReset e m o s × IsState d s
  reset-alike m None s same = (same ∙ alike.initial, subst (IsState d) (sym same) kept.begins)
  reset-alike m (Some r) s (pins, are, runs) =
      let after = after-alike pins r.cycles (initial d) s kept.begins runs in (
        (pins, pins-alike m true silent pins are, subst (λ (u : Values). IsAfter e pins r.cycles u s) alike.initial after.0),
        after.1,
      )

  -- ---- the rows
  step-alike : (m : Map) (s : Values) (row : Row) (after : Values) → IsState d s → IsStep d m s row after
      → IsStep e m s row after × IsState d after
  step-alike m s row after is x = (
    record {
      pins = x.pins;
      v = x.v;
      entered = pins-alike m false row x.pins x.entered;
      settled = (alike.settled s x.v x.pins is).0 x.settled;
      shown = subst (λ (ports : List Port). Shows (pins_of Output ports x.v.nets) m row) alike.ports x.shown;
      next = x.next ∙ alike.next s x.v;
    },
    subst (IsState d) (sym x.next) (kept.goes x.v s is),
  )

  state-at : (m : Map) (rows : List Row) (x : IsDriven d m rows) (t : ℕ) → t ≤ length rows → IsState d (x.state t)
  state-at m rows x zero l = (reset-alike m m.reset (x.state 0) x.first).1
  state-at m rows x (suc t) l =
      let row = channel-at rows t (omega (arith, l)) in
      (step-alike m (x.state t) row.0 (x.state (suc t)) (state-at m rows x t (omega (arith, l))) (x.steps t row.0 row.1)).1

  shown-alike : (m : Map) (rows : List Row) → IsDriven d m rows → IsDriven e m rows
  shown-alike m rows x = record {
    state = x.state;
    first = (reset-alike m m.reset (x.state 0) x.first).0;
    steps = λ t row at.
        (let l = slice_get_within rows t row at in
        (step-alike m (x.state t) row (x.state (suc t)) (state-at m rows x t (omega (arith, l))) (x.steps t row at)).0);
  }

  played-alike : (m : Map) (rule : List Row → Row → Type 0) (rows : List Row) → IsPlayed d m rule rows → IsPlayed e m rule rows
  played-alike m rule rows p = record { marked = p.marked; driven = shown-alike m rows p.driven; ruled = p.ruled }

  stops-alike : (m : Map) (rule : List Row → Row → Type 0) (rows : List Row) (c : ℕ) → StopsBefore d m rule rows c
      → StopsBefore e m rule rows c
  stops-alike m rule rows c x = record {
    next = x.next;
    played = played-alike m rule (rows ++ x.next ∷ []) x.played;
    stable = x.stable;
    unstable = x.unstable;
  }

  run-alike : (m : Map) (offers : List Row → Offers) (gates : List Row → ℕ → Type 0) (n : ℕ) (rows : List Row) (stop : Option ℕ)
      → IsTheRun d m offers gates n rows stop → IsTheRun e m offers gates n rows stop
  run-alike m offers gates n rows None (run, stable, long) =
      (played-alike m (IsRunRow m.channels offers gates) rows run, stable, long)
  run-alike m offers gates n rows (Some c) (stops, l) = (stops-alike m (IsRunRow m.channels offers gates) rows c stops, l)

pub driven-alike : DrivenAlike
driven-alike d e law alike m rows =
    let kept = lawful-kept d law in
    (shown-alike d e kept alike m rows, shown-alike e d (kept-alike d e alike kept) (turned d e alike) m rows)

-- under any relation of gates
pub the-runs_alike : (d e : Design) → IsLawful d → AreAlike d e → (m : Map) (offers : List Row → Offers) (gates : List Row → ℕ → Type 0)
    (n : ℕ) (rows : List Row) (stop : Option ℕ) → IsTheRun d m offers gates n rows stop ↔ IsTheRun e m offers gates n rows stop
the-runs_alike d e law alike m offers gates n rows stop =
    let kept = lawful-kept d law in (
      run-alike d e kept alike m offers gates n rows stop,
      run-alike e d (kept-alike d e alike kept) (turned d e alike) m offers gates n rows stop,
    )

pub runs-alike : RunsAlike
runs-alike d e law alike m offers plan n rows stop = the-runs_alike d e law alike m offers (GatesOf plan) n rows stop
