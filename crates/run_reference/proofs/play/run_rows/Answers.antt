use Rattle.std.proofs.Common.{List, length, slice_index, ◌+◌, refl, ap, sym, subst, ◌∙◌}
use Rattle.std.proofs.lemmas.List.{length_push}
use Rattle.std.proofs.lemmas.Option.{slice_get_read}
use Rattle.run_model.specs.trace_model.declared.row.Row.{Row}
use Rattle.run_model.specs.trace_model.Row.{row_before, IsMarked}
use Rattle.run_model.specs.Laws.{GatesOf}
use Rattle.run_model.specs.Run.{IsRunRow}
use Rattle.run_model.specs.Step.{IsStep}
use Rattle.run_model.proofs.PlayedLaws.{Grown, played-nil}
use Rattle.run_reference.specs.Given.{offers_by, gates_by}
use Rattle.run_reference.proofs.StepLemmas.{Stepped, run-grow, offer-here}
use Rattle.run_reference.proofs.play.run_rows.Goals as goal

pub loop-t-init : goal.loop-t-init
loop-t-init g c =
    let d = g.B.Block.design c.args.block.now in
    let m = c.args.map.now in
    let s = g.B.Block.state c.reset.new.block in
    record {
      grown = subst (λ (rs : List Row). Grown d m (IsRunRow m.channels (offers_by c.args.offers.now) (GatesOf
          (gates_by c.args.gates.now))) rs s)
          (sym c.new-rows.ensures)
          (played-nil d m (IsRunRow m.channels (offers_by c.args.offers.now) (GatesOf
          (gates_by c.args.gates.now))) s c.in_ok-reset.ensures.state);
      design = c.reset.ensures.design;
      count = ap length c.new-rows.ensures;
    }

pub loop-t-preserved : goal.loop-t-preserved
loop-t-preserved g c =
    let d = g.B.Block.design c.args.block.now in
    let m = c.args.map.now in
    let inv = c.loop-t.invariant in
    let rows = c.loop-t.rows in
    let row = c.in_ok-row.row in
    let s = g.B.Block.state c.loop-t.block in
    let after = g.B.Block.state c.step.new.block in
    let offer = c.index-offers-t.result in
    let gates = slice_index c.args.gates.now c.loop-t.t in
    let marked : IsMarked (row_before rows (length rows)) row =
    subst (λ (rs : List Row). IsMarked (row_before rs (length rs)) row) c.as_slice.ensures c.in_ok-row.ensures.marked in
    let made : IsStep d m s row after = subst (λ e. IsStep e m s row after) inv.design c.in_ok-row.ensures.step in
    let st : Stepped d m (row_before rows (length rows)) offer gates s row after = record {
      over = c.in_ok-row.ensures.over;
      marked = marked;
      carried = c.in_ok-row.ensures.carried;
      step = made;
    } in
    let there = slice_get_read c.args.offers.now (length c.args.offers.now) c.loop-t.t offer refl c.loop-t-test.true c.index-offers-t.is in
    let grown = run-grow d m c.args.offers.now c.args.gates.now rows s inv.grown offer gates row after
    (offer-here c.args.offers.now rows c.loop-t.t offer inv.count there) (ap (slice_index c.args.gates.now) (sym inv.count)) st
    c.in_ok-row.ensures.gates c.in_ok-row.ensures.fresh in
    record {
      grown = subst (λ (rs : List Row). Grown d m (IsRunRow m.channels (offers_by c.args.offers.now) (GatesOf
          (gates_by c.args.gates.now))) rs after)
          (sym c.in_ok-push.ensures.ok) grown;
      design = c.step.ensures.design ∙ inv.design;
      count = ap length c.in_ok-push.ensures.ok ∙ length_push rows row ∙ ap (λ n. n + 1) inv.count;
    }
