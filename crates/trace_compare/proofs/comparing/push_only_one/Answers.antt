use Rattle.std.proofs.Common.{◌≡◌, ◌++◌, ◌∙◌, List, [], ◌∷◌, ℕ, cond, subst, ap, append_assoc}
use Rattle.std.specs.Prelude.{OnOk, nat_lt}
use Rattle.trace_compare.specs.declared.report.Finding.{Finding}
use Rattle.trace_compare.specs.declared.report.What.{What}
use Rattle.trace_compare.specs.Findings.{finding_of, found, missing, extra}
use Rattle.trace_compare.proofs.comparing.push_only_one.Goals as goal

pub returns : goal.returns
returns c =
    let e : ℕ = c.args.site.epoch in
    let k : ℕ = c.args.site.channel in
    let in_a : ℕ = c.args.in_a in
    let in_b : ℕ = c.args.in_b in
    let lacks : c.finding-lacks.result ≡ finding_of e k (missing c.args.kind) in_b 1 =
    c.finding-lacks.ensures ∙ ap (λ (w : What). finding_of e k w in_b 1) c.missing.ensures in
    let exceeds : c.finding-exceeds.result ≡ finding_of e k (extra c.args.kind) in_a 1 =
    c.finding-exceeds.ensures ∙ ap (λ (w : What). finding_of e k w in_a 1) c.extra.ensures in
    let first : List Finding = found (nat_lt in_b in_a) e k (missing c.args.kind) in_b 1 in
    let second : List Finding = cond (nat_lt in_a in_b) (c.finding-exceeds.result ∷ []) [] in
    let grown = ap (λ (r : List Finding). r ++ second) c.in_ok-push_if.ensures
    ∙ append_assoc c.args.report.now (cond (nat_lt in_b in_a) (c.finding-lacks.result ∷ []) []) second
    ∙ ap (λ (f : Finding). c.args.report.now ++ (cond (nat_lt in_b in_a) (f ∷ []) [] ++ second)) lacks
    ∙ ap (λ (f : Finding). c.args.report.now ++ (first ++ cond (nat_lt in_a in_b) (f ∷ []) [])) exceeds in
    subst (λ (fs : List Finding). OnOk c.push_if-2.result (c.push_if-2.new.report ≡ fs)) grown c.push_if-2.ensures
