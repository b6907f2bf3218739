use Rattle.std.proofs.Common.{◌≡◌, ◌++◌, ◌∙◌, List, ℕ, length, refl, ap, subst, arith}
use Rattle.std.specs.Prelude.{OnOk}
use Rattle.vec_clock.specs.trace_model.declared.event.Kind.TheVariants.{Start, End}
use Rattle.trace_compare.specs.declared.report.Finding.{Finding}
use Rattle.trace_compare.specs.Findings.{different}
use Rattle.trace_compare.specs.Walking.{only_of, early_of, early_at}
use Rattle.trace_compare.proofs.Channels.{five-pushed}
use Rattle.trace_compare.proofs.EventPlaces.{places-few, within-of}
use Rattle.trace_compare.proofs.OnChannel.{findings-same}
use Rattle.trace_compare.proofs.comparing.push_findings.Goals as goal

pub overflow_cast-starts_a : goal.overflow_cast-starts_a
overflow_cast-starts_a c = omega (
  arith,
  ap length c.as_slice-starts_a.ensures.value,
  ap length c.requires.starts_a,
  places-few Start c.args.site.channel c.args.pair.now.a.now,
  c.requires.few_a,
)

pub overflow_cast-starts_b : goal.overflow_cast-starts_b
overflow_cast-starts_b c = omega (
  arith,
  ap length c.as_slice-starts_b.ensures.value,
  ap length c.requires.starts_b,
  places-few Start c.args.site.channel c.args.pair.now.b.now,
  c.requires.few_b,
)

pub overflow_cast-ends_a : goal.overflow_cast-ends_a
overflow_cast-ends_a c = omega (
  arith,
  ap length c.as_slice-ends_a.ensures.value,
  ap length c.requires.ends_a,
  places-few End c.args.site.channel c.args.pair.now.a.now,
  c.requires.few_a,
)

pub overflow_cast-ends_b : goal.overflow_cast-ends_b
overflow_cast-ends_b c = omega (
  arith,
  ap length c.as_slice-ends_b.ensures.value,
  ap length c.requires.ends_b,
  places-few End c.args.site.channel c.args.pair.now.b.now,
  c.requires.few_b,
)

pub push_early-requires-clause-few : goal.push_early-requires-clause-few
push_early-requires-clause-few c = omega (
  arith,
  ap length c.as_slice-starts_a.ensures.value,
  ap length c.requires.starts_a,
  places-few Start c.args.site.channel c.args.pair.now.a.now,
  c.requires.few_a,
)

pub push_early-requires-clause-in_a : goal.push_early-requires-clause-in_a
push_early-requires-clause-in_a c k d l = omega (
  arith,
  within-of Start c.args.site.channel c.args.pair.now.a.now c.as_slice-starts_a.result.now
      (c.as_slice-starts_a.ensures.value ∙ c.requires.starts_a) k d l,
  c.requires.covering.long,
)

pub push_early-requires-2-clause-few : goal.push_early-requires-2-clause-few
push_early-requires-2-clause-few c = omega (
  arith,
  ap length c.as_slice-ends_a.ensures.value,
  ap length c.requires.ends_a,
  places-few End c.args.site.channel c.args.pair.now.a.now,
  c.requires.few_a,
)

pub push_early-requires-2-clause-in_a : goal.push_early-requires-2-clause-in_a
push_early-requires-2-clause-in_a c k d l = omega (
  arith,
  within-of End c.args.site.channel c.args.pair.now.a.now c.as_slice-ends_a.result.now
      (c.as_slice-ends_a.ensures.value ∙ c.requires.ends_a) k d l,
  c.requires.covering.long,
)

pub returns : goal.returns
returns c =
    let channels = c.args.pair.now.channels.now in
    let e : ℕ = c.args.site.epoch in
    let k : ℕ = c.args.site.channel in
    let a = c.args.pair.now.a.now in
    let b = c.args.pair.now.b.now in
    let covering = c.args.covering.now in
    let starts_a : List ℕ = c.as_slice-starts_a.result.now in
    let starts_b : List ℕ = c.as_slice-starts_b.result.now in
    let ends_a : List ℕ = c.as_slice-ends_a.result.now in
    let ends_b : List ℕ = c.as_slice-ends_b.result.now in
    let pushed = five-pushed c.args.report.now c.push_different.new.report c.push_only_one.new.report c.push_only_one-2.new.report
    c.push_early.new.report (different e channels k a b) (only_of e Start k (length starts_a) (length starts_b))
    (only_of e End k (length ends_a) (length ends_b)) (early_of e Start k (early_at covering starts_a starts_b))
    (early_of e End k (early_at covering ends_a ends_b)) c.in_ok-push_different.ensures c.in_ok-push_only_one.ensures
    c.in_ok-push_only_one-2.ensures c.in_ok-push_early.ensures in
    let same = findings-same e channels k a b covering starts_a starts_b ends_a ends_b (length starts_a) (length starts_b) (length ends_a)
    (length ends_b) c.requires.covering (c.as_slice-starts_a.ensures.value ∙ c.requires.starts_a)
    (c.as_slice-starts_b.ensures.value ∙ c.requires.starts_b) (c.as_slice-ends_a.ensures.value ∙ c.requires.ends_a)
    (c.as_slice-ends_b.ensures.value ∙ c.requires.ends_b) refl refl refl refl in
    subst (λ (fs : List Finding). OnOk c.push_early-2.result (c.push_early-2.new.report ≡ fs))
    (pushed ∙ ap (λ (fs : List Finding). c.args.report.now ++ fs) same) c.push_early-2.ensures
