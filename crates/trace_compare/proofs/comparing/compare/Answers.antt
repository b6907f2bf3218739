use Rattle.std.proofs.Common.{◌≡◌, ◌+◌, ◌-◌, ◌++◌, ◌∙◌, ℕ, List, length, ap, arith}
use Rattle.std.specs.List.{flat_map, range_with_len}
use Rattle.vec_clock.specs.trace_model.declared.channel.Channel.{Channel}
use Rattle.vec_clock.specs.trace_model.declared.event.Kind.TheVariants.{Reset}
use Rattle.vec_clock.specs.trace_model.Epoch.{epoch, resets}
use Rattle.trace_compare.specs.declared.report.Finding.{Finding}
use Rattle.trace_compare.specs.Findings.{epochs_in_both, findings_in, findings_on}
use Rattle.trace_compare.specs.Walking.{only_of}
use Rattle.trace_compare.proofs.ByEpoch.{first-found, first-rest, findings-here, later-rest}
use Rattle.trace_compare.proofs.Channels.{channel-on, channels-done}
use Rattle.trace_compare.proofs.comparing.compare.Goals as goal

pub loop-epoch-init : goal.loop-epoch-init
loop-epoch-init c =
    let a = c.args.a.now.packets in
    let b = c.args.b.now.packets in
    record {
      found = first-found (findings_in c.args.a.now.channels a b) (epochs_in_both a b) c.new-report.result c.new-report.ensures;
      rest_a = first-rest a c.as_slice-rest_a.result.now c.as_slice-rest_a.ensures;
      rest_b = first-rest b c.as_slice-rest_b.result.now c.as_slice-rest_b.ensures;
      few_a = omega (arith, ap length c.as_slice-rest_a.ensures);
      few_b = omega (arith, ap length c.as_slice-rest_b.ensures);
    }

pub push_epoch-requires-clause-few_a : goal.push_epoch-requires-clause-few_a
push_epoch-requires-clause-few_a c =
    let inv = c.loop-epoch.invariant in omega (arith, c.cut.ensures.first_fits, inv.few_a, c.requires.few_a)

pub push_epoch-requires-clause-few_b : goal.push_epoch-requires-clause-few_b
push_epoch-requires-clause-few_b c =
    let inv = c.loop-epoch.invariant in omega (arith, c.cut-in-loop-epoch.ensures.first_fits, inv.few_b, c.requires.few_b)

pub loop-epoch-preserved : goal.loop-epoch-preserved
loop-epoch-preserved c =
    let channels = c.args.a.now.channels in
    let a = c.args.a.now.packets in
    let b = c.args.b.now.packets in
    let e : ℕ = c.loop-epoch.epoch in
    let resets_a : c.resets-resets_a.result ≡ resets a = c.resets-resets_a.ensures ∙ ap resets c.as_slice-rest_a.ensures in
    let resets_b : c.resets-resets_b.result ≡ resets b = c.resets-resets_b.ensures ∙ ap resets c.as_slice-rest_b.ensures in
    let inv = c.loop-epoch.invariant in
    let here = findings-here channels a b c.loop-epoch.rest_a.now c.loop-epoch.rest_b.now c.cut.result.0.now c.cut-in-loop-epoch.result.0.now e
    c.cut.ensures.first c.cut-in-loop-epoch.ensures.first inv.rest_a inv.rest_b in
    record {
      found = channel-on (findings_in channels a b) (epochs_in_both a b) e c.loop-epoch.report c.push_epoch.new.report
          (flat_map (findings_in channels a b) (range_with_len 0 (epochs_in_both a b)))
          (omega (arith, c.loop-epoch-test.true, c.min-epoch-end.ensures, resets_a, resets_b)) inv.found
          (c.in_ok-push_epoch.ensures ∙ ap (λ (cs : List Channel). c.loop-epoch.report ++ flat_map
          (findings_on e cs c.cut.result.0.now c.cut-in-loop-epoch.result.0.now) (range_with_len 0 (length cs))) c.as_slice-channels.ensures
          ∙ ap (λ (fs : List Finding). c.loop-epoch.report ++ fs) here);
      rest_a = later-rest a c.loop-epoch.rest_a.now c.cut.result.1.now e c.cut.ensures.later inv.rest_a;
      rest_b = later-rest b c.loop-epoch.rest_b.now c.cut-in-loop-epoch.result.1.now e c.cut-in-loop-epoch.ensures.later inv.rest_b;
      few_a = omega (arith, c.cut.ensures.later_fits, inv.few_a);
      few_b = omega (arith, c.cut-in-loop-epoch.ensures.later_fits, inv.few_b);
    }

pub returns : goal.returns
returns c =
    let channels = c.args.a.now.channels in
    let a = c.args.a.now.packets in
    let b = c.args.b.now.packets in
    let resets_a : c.resets-resets_a.result ≡ resets a = c.resets-resets_a.ensures ∙ ap resets c.as_slice-rest_a.ensures in
    let resets_b : c.resets-resets_b.result ≡ resets b = c.resets-resets_b.ensures ∙ ap resets c.as_slice-rest_b.ensures in
    let inv = c.loop-epoch.invariant in
    let whole : List Finding = flat_map (findings_in channels a b) (range_with_len 0 (epochs_in_both a b)) in
    let all = channels-done (findings_in channels a b) (epochs_in_both a b) c.loop-epoch.epoch c.loop-epoch.report whole
    (omega (arith, c.loop-epoch-test.false, c.min-epoch-end.ensures, resets_a, resets_b)) inv.found in
    c.in_ok-push_only_one.ensures ∙ ap (λ (fs : List Finding). fs ++ only_of 0 Reset 0 c.resets-resets_a.result c.resets-resets_b.result) all
    ∙ ap (λ m. whole ++ only_of 0 Reset 0 m c.resets-resets_b.result) resets_a
    ∙ ap (λ n. whole ++ only_of 0 Reset 0 (resets a) n) resets_b
