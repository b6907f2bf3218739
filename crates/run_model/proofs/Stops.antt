-- There is exactly one run of each length, and it ends in exactly one way.
use Rattle.std.proofs.Common.{◌≡◌, ℕ, false, List, Option, None, Some, length, take, refl, sym, ◌∙◌, arith, ⊎_elim}
use Rattle.std.proofs.Math.Logic.{∥∥₁_map}
use Rattle.std.proofs.lemmas.List.{length-take-le}
use Rattle.chan_map.specs.trace_model.declared.channel.Channel.{Channel}
use Rattle.chan_map.specs.trace_model.declared.row.Offers.{Offers}
use Rattle.chan_map.specs.trace_model.declared.row.Row.{Row}
use Rattle.net_design.specs.declared.design.Design.{Design}
use Rattle.chan_map.specs.declared.pins.Map.{Map}
use Rattle.run_model.specs.Laws.{IsReady, GatesFit, GatesOf, OffersFit, OneRun, OneThatEnds}
use Rattle.run_model.specs.Played.{AreStable}
use Rattle.run_model.specs.Run.{IsRun, IsRunRow, IsTheRun}
use Rattle.run_model.proofs.Ends.{one-end_of}
use Rattle.run_model.proofs.RunLaws.{one-of_length, GatesAreFixed}
use Rattle.run_model.proofs.Unstable.{stable-or-stops, Stop}

module _ (d : Design) (m : Map) (offers : List Row → Offers) (gates : List Row → ℕ → Type 0) where
  -- of n rows of a run, those that are the run
  the-run_of : (n : ℕ) (all : List Row) → length all ≡ n → IsRun d m offers gates all
      → (rows : List Row) × (stop : Option ℕ) × IsTheRun d m offers gates n rows stop
  the-run_of n all long run = ⊎_elim
      (λ (stable : AreStable m.channels all). (all, None, (run, stable, long)))
      (λ (stop : Stop d m (IsRunRow m.channels offers gates) all run).
      (let within = stop.within in
      let l = length-take-le stop.place all (omega (arith, within)) in
      (take stop.place all, Some stop.channel, (stop.stops, omega (arith, within, l, long)))))
      (stable-or-stops d m (IsRunRow m.channels offers gates) all run)

  pub one-that_ends : IsReady d m → OffersFit m.channels offers → GatesAreFixed m.channels gates → (n : ℕ)
      → OneThatEnds (IsTheRun d m offers gates n)
  one-that_ends ready fit one n = (
    ∥∥₁_map (one-of_length false d m ready offers fit gates one n).0
        (λ (x : (rows : List Row) × (length rows ≡ n) × IsRun d m offers gates rows). the-run_of n x.0 x.1 x.2),
    one-end_of d m ready offers gates (λ before are. (one before are).only) n,
  )

pub plan-fixes : (channels : List Channel) (plan : List Row → ℕ) → GatesFit channels plan → GatesAreFixed channels (GatesOf plan)
plan-fixes channels plan fit before are = record { mask = plan before; is = refl; below = fit before are; only = λ a b x y. x ∙ sym y }

pub one-run : OneRun
one-run d m ready offers fit plan gates n =
    let fixed = plan-fixes m.channels plan gates in (
      one-of_length false d m ready offers fit (GatesOf plan) fixed n,
      one-that_ends d m offers (GatesOf plan) ready fit fixed n,
    )
