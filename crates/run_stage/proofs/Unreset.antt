-- Where no reset comes, all rows are one stretch.
use Rattle.std.proofs.Common.{◌≡◌, ℕ, Bool, false, List, [], ◌∷◌, Result, Ok, Err, IfOk, IfErr, length, inl, refl}
use Rattle.std.proofs.Math.Logic.{∥∥₁_map}
use Rattle.chan_replayer.specs.trace_model.declared.row.Row.{Row}
use Rattle.net_design.specs.declared.design.Design.{Design}
use Rattle.net_design.specs.declared.values.Values.{Values}
use Rattle.chan_replayer.specs.chan_map.declared.pins.Map.{Map}
use Rattle.run_stage.specs.declared.ending.Ending.{Ending}
use Rattle.run_stage.specs.declared.ending.Ending.TheVariants.{Whole, Done, Unstable}
use Rattle.run_stage.specs.Playing.{since, AreRuled, Came, HasCome, Plays, Stops}
use Rattle.run_stage.specs.Stretching.{all_rows, is_fresh_behind, ArePlayed, AreRuledStretches, CameBehind, HaveCome, PlayStretches, StopIn}

-- the turns of a player that asks for no reset
abbrev pub Never : List (List Row) → List Row → Type 0
Never past here = ⊥

pub ruled : (m : Map) (rule : List Row → Row → Type 0) (past : List (List Row)) (here : List Row)
    → AreRuledStretches m (λ p. rule) Never past here → AreRuled m rule here
ruled m rule past here are = record {
  played = ∥∥₁_map are.played (λ (x : (d : Design) × ArePlayed d m (λ p. rule) Never past here). (x.0, x.1.last));
  stable = are.stable.last;
}

pub long : (past : List (List Row)) (here : List Row) (n : ℕ) → past ≡ [] → length (all_rows past here) ≡ n → length here ≡ n
long [] here n e l = l
long (rows ∷ past) here n e l = absurd (cc)

pub not-fresh : (past : List (List Row)) (here : List Row) (row : Row) → past ≡ [] → row.fresh ≡ false → row.fresh ≡ is_fresh_behind past here
not-fresh [] here row e f = f
not-fresh (rows ∷ past) here row e f = absurd (cc)

pub fresh-not : (past : List (List Row)) (here : List Row) (row : Row) → past ≡ [] → row.fresh ≡ is_fresh_behind past here → row.fresh ≡ false
fresh-not [] here row e f = f
fresh-not (rows ∷ past) here row e f = absurd (cc)

pub plays-on : (d : Design) (m : Map) (rule : List Row → Row → Type 0) (runs : Design → Values → List (List Row) → List Row → Type 0) (last : Row)
    (past : List (List Row)) (here : List Row) → past ≡ [] → PlayStretches d m (λ p. rule) Never runs last past here
    → Plays d m rule (since runs) last here
plays-on d m rule runs last [] here e at = record {
  played = at.played.last;
  at = at.at;
  stable = at.stable.last;
  last_is = at.last_is;
}
plays-on d m rule runs last (rows ∷ past) here e at = absurd (cc)

pub has-come : (ends : List Row → Bool → Type 0) (n : ℕ) (past : List (List Row)) (here : List Row) → past ≡ []
    → HaveCome (λ p. ends) n past here → HasCome ends n here
has-come ends n [] here e come = record { within = come.within; going = λ k l. come.going k l (inl refl) }
has-come ends n (rows ∷ past) here e come = absurd (cc)

pub came : (ends : List Row → Bool → Type 0) (n : ℕ) (past : List (List Row)) (here : List Row) (ending : Ending) → past ≡ []
    → CameBehind (λ p. ends) n past here ending → Came ends n here ending
came ends n [] here Whole e h = h
came ends n [] here (Done cycles) e h = h
came ends n [] here (Unstable channel cycle) e h = h
came ends n (rows ∷ past) here ending e h = absurd (cc)

pub stops-on : (d : Design) (m : Map) (rule : List Row → Row → Type 0) (past : List (List Row)) (here : List Row) (ending : Ending)
    → StopIn d m (λ p. rule) Never past here ending → Stops d m rule here ending
stops-on d m rule past here Whole h = h
stops-on d m rule past here (Done cycles) h = h
stops-on d m rule past here (Unstable channel cycle) h = h.0

pub of-either : {A E : Type 0} (r : Result A E) (P : A → Type 0) (Q : E → Type 0) (R : Type 0) → IfOk r P → IfErr r Q
    → ((a : A) → P a → R) → ((e : E) → Q e → R) → R
of-either (Ok a) P Q R p q f g = f a p
of-either (Err e) P Q R p q f g = g e q
