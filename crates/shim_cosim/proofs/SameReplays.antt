-- Replays of one design are one.
use Rattle.std.proofs.Common.{◌≡◌, List, sym, ap, ◌∙◌, subst}
use Rattle.replay_run.specs.trace_model.declared.row.Row.{Row}
use Rattle.replay_run.specs.trace_model.Recording.{trace_of}
use Rattle.replay_run.specs.trace_code.Encoding.{Encodes}
use Rattle.net_design.specs.declared.design.Design.{Design}
use Rattle.net_design.specs.declared.values.Values.{Values}
use Rattle.replay_run.specs.run_stage.Stretching.{all_rows}
use Rattle.replay_run.proofs.Outcomes.{one-outcome}
use Rattle.shim_cosim.specs.Replays.{ReplaysAlike}

pub replays_alike : (p q : Design → Values → List Row → Type 0) → ReplaysAlike p q
replays_alike p q d m ready packets fit n a b x y =
    let same = (one-outcome d m ready packets fit n).1 x.past y.past x.here y.here a.outcome b.outcome x.ends y.ends in
    let rows : all_rows x.past x.here ≡ all_rows y.past y.here =
    ap (λ (past : List (List Row)). all_rows past x.here) same.0 ∙ ap (all_rows y.past) same.1 in
    let bytes : a.out ≡ b.out =
    sym x.out.1 ∙ (subst (λ (rs : List Row). Encodes (trace_of m.channels rs) b.out) (sym rows) y.out).1 in
    λ i. record { outcome = same.2 i; out = bytes i }
