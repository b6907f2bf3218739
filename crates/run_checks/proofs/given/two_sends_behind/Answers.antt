use Rattle.std.proofs.Common.{All, ◌+◌, ◌<◌, length, slice_index, ap, sym, subst, ◌∙◌, arith}
use Rattle.std.proofs.lemmas.List.{length_push}
use Rattle.std.proofs.lemmas.List.Elements.{All-push}
use Rattle.run_stage.specs.Given.{FitsGates}
use Rattle.run_stage.specs.declared.given.Gated.{Gated}
use Rattle.sample_designs.specs.Stage.{stage_channels}
use Rattle.run_checks.proofs.SendLaws.{gated}
use Rattle.run_checks.proofs.given.two_sends_behind.Goals as goal

pub loop-cycle-preserved : goal.loop-cycle-preserved
loop-cycle-preserved c =
    let inv = c.loop-cycle.invariant in
    let more = c.in_ok-push.ensures.ok in
    let gates = slice_index c.args.gates.now c.loop-cycle.cycle in
    let within : c.loop-cycle.cycle < length c.args.gates.now =
    (let l = c.loop-cycle-test.true in let n = c.type_inv.gates in omega (arith, l, n)) in
    let here : Gated = record { offers = c.in_ok-offers.offers; gates = gates } in
    record {
      count = ap length more ∙ length_push c.loop-cycle.list here ∙ ap (λ n. n + 1) inv.count;
      fit = subst (All (FitsGates stage_channels)) (sym more) (All-push (FitsGates stage_channels) c.loop-cycle.list here inv.fit
          (gated c.in_ok-offers.offers gates c.in_ok-offers.ensures (c.requires c.loop-cycle.cycle 0 within)));
    }
