-- Recordings of one design through two shells.
use Rattle.std.specs.Prelude.{◌≡◌, ℕ, List, Option}
use Rattle.replay_run.specs.trace_model.declared.row.Row.{Row}
use Rattle.net_design.specs.declared.design.Design.{Design}
use Rattle.net_design.specs.declared.values.Values.{Values}
use Rattle.replay_run.specs.chan_map.declared.pins.Map.{Map}
use Rattle.replay_run.specs.run_model.Laws.{IsReady}
use Rattle.vidi_recorder.specs.env_script.declared.stalls.Stalls.{Stalls}
use Rattle.vidi_recorder.specs.env_script.Offer.{Offer}
use Rattle.vidi_recorder.specs.env_script.Offered.{AreLasting}
use Rattle.vidi_recorder.specs.declared.error.Outcome.{Outcome}
use Rattle.vidi_recorder.specs.Course.{course}
use Rattle.vidi_recorder.specs.Recording.{EndsWith}

-- Two recordings that come to their end, one through each of two shells, answer the same, and their sinks tell the same, where both run the
-- same design, in the same environment, under the same plan of stalls, with resets at the same times, for as many cycles. The shells run what is given, and the environments stand for
-- what is given.
abbrev pub RecordsAlike : (Design → Values → Option Row → Type 0) → (Design → Values → Option Row → Type 0) → (List Row → Type 0)
    → (List Row → Type 0) → Type 0
RecordsAlike p q f g = (d : Design) (m : Map) (offer : List Row → ℕ → Offer) (stalls : Stalls) (times : List ℕ) (cycles : ℕ)
    → IsReady d m
    → AreLasting m.channels offer → (old one other : Option (List ℕ)) (a b : Outcome)
    → EndsWith (course d m offer stalls times cycles) p f old one a
    → EndsWith (course d m offer stalls times cycles) q g old other b
    → (a ≡ b) × (one ≡ other)
