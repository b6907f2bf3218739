use Rattle.std.proofs.Common.{inl, inr}
use Rattle.replay_command.specs.vidi_bench.Ended.{EndsWith}
use Rattle.sample_command.specs.Sampled.{trace_on, HasTrace}
use Rattle.sample_command.specs.Samples.{figures, IsTraced, IsUntraced, SamplesFiles, SamplesReplay}
use Rattle.replay_command.proofs.vidi_bench_lemmas.Chain.{all-answered, answered-as}
use Rattle.sample_command.proofs.Sampled.{some-at, some-there}
use Rattle.sample_command.proofs.sampling.sampled.Goals as goal

pub trace_on-requires : goal.trace_on-requires
trace_on-requires c =
    let x = c.args.files in
    some-there (IsTraced x.design x.map x.script c.as_slice.result.now) (trace_on c.in_ok-shelf.shelf) c.in_ok-shelf.ensures.traced

pub returns-in_err-shelf : goal.returns-in_err-shelf
returns-in_err-shelf c =
    let x = c.args.files in
    let refused : EndsWith (IsUntraced x.design x.map x.script x.stalls) c.in_err-shelf.field-0.0 =
    rw c.as_slice.ensures at c.in_err-shelf.ensures.refused in
    answered-as (IsUntraced x.design x.map x.script x.stalls) (SamplesFiles c.args.number x) c.in_err-shelf.field-0.0
    c.from_residual.result c.from_residual.ensures.1 (λ a y is. inl is) refused

pub returns : goal.returns
returns c =
    let x = c.args.files in
    let bytes = c.trace_on.result.now in
    let traced : HasTrace (IsTraced x.design x.map x.script x.stalls) c.in_ok-shelf.shelf =
    rw c.as_slice.ensures at c.in_ok-shelf.ensures.traced in
    let is = some-at (IsTraced x.design x.map x.script x.stalls) (trace_on c.in_ok-shelf.shelf) bytes c.trace_on.ensures traced in
    all-answered (SamplesReplay (figures c.args.number x) x.design x.map bytes) (SamplesFiles c.args.number x) c.replayed_texts.result
    (λ a y said. inr (bytes, is, said)) c.replayed_texts.ensures
