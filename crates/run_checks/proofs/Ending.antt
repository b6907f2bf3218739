-- The end of a run under what is given.
use Rattle.std.proofs.Common.{◌≡◌, ℕ, ◌≤◌, false, List, [], ◌∷◌, ◌++◌, length, subst, sym, arith}
use Rattle.std.proofs.lemmas.List.{length-take, length_push}
use Rattle.std.proofs.lemmas.Option.{slice_get_within}
use Rattle.run_reference.specs.trace_model.declared.row.Row.{Row}
use Rattle.net_design.specs.declared.design.Design.{Design}
use Rattle.net_design.specs.declared.values.Values.{Values}
use Rattle.run_reference.specs.chan_map.declared.pins.Map.{Map}
use Rattle.run_reference.specs.run_model.Laws.{GatesOf}
use Rattle.run_reference.specs.run_model.Played.{IsPlayed}
use Rattle.run_reference.specs.run_model.Run.{IsRun}
use Rattle.run_stage.specs.declared.ending.Ending.{Ending}
use Rattle.run_stage.specs.declared.ending.Ending.TheVariants.{Whole, Done, Unstable}
use Rattle.run_stage.specs.declared.given.Gated.{Gated}
use Rattle.run_stage.specs.Playing.{Came, Plays, Stops}
use Rattle.run_checks.specs.Playing.{EndsAs, IsTurn, gates_in, offers_in}

module _ (d : Design) (m : Map) (given : List Gated) where
  -- no more rows than are given are a run's
  within : (rows : List Row) → length rows ≤ length given → IsPlayed d m (IsTurn m.channels given) rows
      → IsRun d m (offers_in given) (GatesOf (gates_in given)) rows
  within rows few played = record {
    marked = played.marked;
    driven = played.driven;
    ruled = λ t row at. played.ruled t row at
        (let l = slice_get_within rows t row at in let n = length-take t rows in omega (arith, l, n, few));
  }

  pub ends-as : (runs : Design → Values → List Row → Type 0) (last : Row) (n : ℕ) (rows kept : List Row) (ending : Ending) → n ≡ length given
      → kept ≡ rows → Came (λ _ over. over ≡ false) n rows ending → Plays d m (IsTurn m.channels given) runs last rows
      → Stops d m (IsTurn m.channels given) rows ending → EndsAs d m given kept ending
  ends-as runs last n rows kept ending all same came plays stops =
      subst (λ (rs : List Row). EndsAs d m given rs ending) (sym same) (by-end ending came stops)
    where
      by-end : (ending : Ending) → Came (λ _ over. over ≡ false) n rows ending → Stops d m (IsTurn m.channels given) rows ending
          → EndsAs d m given rows ending
      by-end Whole came stops = let l = came.0 in (within rows (omega (arith, l, all)) plays.played, plays.stable, omega (arith, l, all))
      by-end (Done cycles) came stops = absurd (cc)
      by-end (Unstable channel cycle) came stops =
          let l = came.1 in
          let long = length_push rows stops.next in (
            (
              record {
                next = stops.next;
                played = within (rows ++ stops.next ∷ []) (omega (arith, l, long, all)) stops.played;
                stable = stops.stable;
                unstable = stops.unstable;
              },
              omega (arith, l, all),
            ),
            came.0,
          )
