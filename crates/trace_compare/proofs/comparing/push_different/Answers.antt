use Rattle.std.proofs.Common.{◌≡◌, ◌++◌, ◌∙◌, List, ℕ, Bool, length, ap, subst, arith}
use Rattle.std.specs.Prelude.{OnOk}
use Rattle.vec_clock.specs.trace_model.declared.event.Kind.TheVariants.{Start}
use Rattle.trace_compare.specs.declared.report.Finding.{Finding}
use Rattle.trace_compare.specs.declared.report.What.TheVariants.{Differs}
use Rattle.trace_compare.specs.Findings.{differing}
use Rattle.trace_compare.specs.Tally.{IsTally}
use Rattle.trace_compare.specs.Walking.{places, differing_at}
use Rattle.trace_compare.proofs.EventPlaces.{places-few, within-of}
use Rattle.trace_compare.proofs.PairMarks.{differing-same}
use Rattle.trace_compare.proofs.Tallies.{found-first}
use Rattle.trace_compare.proofs.comparing.push_different.Goals as goal

pub returns : goal.returns
returns c =
    let channels = c.args.pair.now.channels.now in
    let a = c.args.pair.now.a.now in
    let b = c.args.pair.now.b.now in
    let k : ℕ = c.args.site.channel in
    let marks = differing channels k a b in
    let at : IsTally (differing_at channels k a b c.args.in_a.now c.args.in_b.now) c.different_starts-tally.result =
    c.different_starts-tally.ensures in
    let same = ap (λ (xs : List ℕ). differing_at channels k a b xs c.args.in_b.now) c.requires.in_a
    ∙ ap (λ (ys : List ℕ). differing_at channels k a b (places Start k a) ys) c.requires.in_b ∙ differing-same channels k a b in
    let is : IsTally marks c.different_starts-tally.result =
    subst (λ (ms : List Bool). IsTally ms c.different_starts-tally.result) same at in
    subst (λ (fs : List Finding). OnOk c.push_if.result (c.push_if.new.report ≡ c.args.report.now ++ fs))
    (found-first marks c.different_starts-tally.result c.args.site.epoch k Differs c.finding-finding.result is c.finding-finding.ensures) c.push_if.ensures

pub different_starts-tally-requires-clause-few : goal.different_starts-tally-requires-clause-few
different_starts-tally-requires-clause-few c =
    omega (arith, ap length c.requires.in_a, places-few Start c.args.site.channel c.args.pair.now.a.now, c.requires.few)

pub different_starts-tally-requires-clause-in_a : goal.different_starts-tally-requires-clause-in_a
different_starts-tally-requires-clause-in_a c k d l =
    omega (arith, within-of Start c.args.site.channel c.args.pair.now.a.now c.args.in_a.now c.requires.in_a k d l)

pub different_starts-tally-requires-clause-in_b : goal.different_starts-tally-requires-clause-in_b
different_starts-tally-requires-clause-in_b c k d l =
    omega (arith, within-of Start c.args.site.channel c.args.pair.now.b.now c.args.in_b.now c.requires.in_b k d l)
