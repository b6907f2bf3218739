use Rattle.std.proofs.Common.{◌≡◌, ℕ, ◌++◌, ◌∷◌, [], Bool, List, Option, Some, None, false, refl, sym, subst, ◌∙◌}
use Rattle.std.specs.Prelude.{IfSome, IfNone}
use Rattle.trace_model.specs.declared.packet.Packet.{Packet}
use Rattle.trace_model.specs.Epoch.{since_reset}
use Rattle.trace_model.specs.Trace.{Alternates, AlternateThroughout, InFlight}
use Rattle.trace_model.proofs.FlightLemmas.{alternates-nil, in_flight-nil}
use Rattle.trace_model.proofs.EpochLemmas.{since-reset, since-row, throughout-push, throughout-last}
use Rattle.trace_model.proofs.flight.in_flight_behind.Goals as goal

pub returns-then-reset-clause-some : goal.returns-then-reset-clause-some
returns-then-reset-clause-some c ps p is _ _ all flight =
    let e = since-reset ps p (is ∙ c.if-reset.true) in
    (throughout-push ps p all (subst Alternates (sym e) alternates-nil), subst (λ xs. InFlight xs 0) (sym e) in_flight-nil)

some-of : (flying starts ends : ℕ) (reset : Bool) (o : Option ℕ) → reset ≡ false → IfSome o (λ after. (ps : List Packet) (q : Packet)
    → q.starts ≡ starts → q.ends ≡ ends → Alternates ps → InFlight ps flying → Alternates (ps ++ q ∷ []) × InFlight (ps ++ q ∷ []) after)
    → IfSome o (λ after. (ps : List Packet) (q : Packet) → q.reset ≡ reset → q.starts ≡ starts → q.ends ≡ ends
    → AlternateThroughout ps → InFlight (since_reset ps) flying
    → AlternateThroughout (ps ++ q ∷ []) × InFlight (since_reset (ps ++ q ∷ [])) after)
some-of flying starts ends reset None h some = some
some-of flying starts ends reset (Some after) h some = λ ps q r s e all flight.
    let same = since-row ps q (r ∙ h) in
    let on = some (since_reset ps) q s e (throughout-last ps all) flight in
    (throughout-push ps q all (subst Alternates (sym same) on.0), subst (λ xs. InFlight xs after) (sym same) on.1)

none-of : (flying starts ends : ℕ) (reset : Bool) (o : Option ℕ) → reset ≡ false → IfNone o ((ps : List Packet) (q : Packet)
    → q.starts ≡ starts → q.ends ≡ ends → InFlight ps flying → ¬ Alternates (ps ++ q ∷ []))
    → IfNone o ((ps : List Packet) (q : Packet) → q.reset ≡ reset → q.starts ≡ starts → q.ends ≡ ends
    → InFlight (since_reset ps) flying → ¬ AlternateThroughout (ps ++ q ∷ []))
none-of flying starts ends reset None h none = λ ps q r s e flight all. none (since_reset ps) q s e flight
    (subst Alternates (since-row ps q (r ∙ h)) (throughout-last (ps ++ q ∷ []) all))
none-of flying starts ends reset (Some after) h none = none

pub returns-clause-some : goal.returns-clause-some
returns-clause-some c = some-of c.args.flying c.args.starts c.args.ends c.args.reset _ c.if-reset.false c.in_flight_after.ensures.some

pub returns-clause-none : goal.returns-clause-none
returns-clause-none c = none-of c.args.flying c.args.starts c.args.ends c.args.reset _ c.if-reset.false c.in_flight_after.ensures.none
