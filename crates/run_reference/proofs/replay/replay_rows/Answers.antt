use Rattle.std.proofs.Common.{◌≡◌, List, ◌+◌, length, ap, sym, subst, ◌∙◌}
use Rattle.std.proofs.lemmas.List.{length_push}
use Rattle.run_model.specs.trace_model.declared.channel.Channel.{Channel}
use Rattle.run_model.specs.trace_model.declared.row.Row.{Row}
use Rattle.run_model.specs.trace_model.Row.{row_before, IsMarked, AreOffers}
use Rattle.run_model.specs.Played.{all_up}
use Rattle.run_model.specs.Replay.{IsReplayRow}
use Rattle.run_model.specs.Step.{IsStep}
use Rattle.run_model.proofs.PlayedLaws.{Grown, played-nil}
use Rattle.run_reference.specs.Feed.{feed}
use Rattle.run_reference.proofs.FeedLemmas.{feed-over, replay-grow}
use Rattle.run_reference.proofs.StepLemmas.{Stepped}
use Rattle.run_reference.proofs.replay.replay_rows.Goals as goal

pub loop-t-init : goal.loop-t-init
loop-t-init g c =
    let d = g.B.Block.design c.args.block.now in
    let m = c.args.map.now in
    let s = g.B.Block.state c.reset.new.block in
    record {
      grown = subst (λ (rs : List Row). Grown d m (IsReplayRow m.channels c.args.packets.now) rs s) (sym c.new-rows.ensures)
          (played-nil d m (IsReplayRow m.channels c.args.packets.now) s c.in_ok-reset.ensures.state);
      design = c.reset.ensures.design;
      count = ap length c.new-rows.ensures;
    }

pub step-requires-clause-offers : goal.step-requires-clause-offers
step-requires-clause-offers g c =
    let m = c.args.map.now in
    let cs = c.as_slice-channels.result.now in
    let ps = c.args.packets.now in
    let is : c.in_ok-offers.offers ≡ feed m.channels ps c.loop-t.rows = c.in_ok-offers.ensures
    ∙ ap (λ (xs : List Channel). feed xs ps c.as_slice.result.now) c.as_slice-channels.ensures
    ∙ ap (feed m.channels ps) c.as_slice.ensures in
    subst (AreOffers m.channels) (sym is) (feed-over m.channels ps c.loop-t.rows c.requires.packets)

pub loop-t-preserved : goal.loop-t-preserved
loop-t-preserved g c =
    let d = g.B.Block.design c.args.block.now in
    let m = c.args.map.now in
    let ps = c.args.packets.now in
    let inv = c.loop-t.invariant in
    let rows = c.loop-t.rows in
    let row = c.in_ok-row.row in
    let s = g.B.Block.state c.loop-t.block in
    let after = g.B.Block.state c.step.new.block in
    let offers = c.in_ok-offers.offers in
    let gates = c.all_up-gates.result in
    let is : offers ≡ feed m.channels ps rows = c.in_ok-offers.ensures
    ∙ ap (λ (xs : List Channel). feed xs ps c.as_slice.result.now) c.as_slice-channels.ensures
    ∙ ap (feed m.channels ps) c.as_slice.ensures in
    let marked : IsMarked (row_before rows (length rows)) row =
    subst (λ (rs : List Row). IsMarked (row_before rs (length rs)) row) c.as_slice-in-loop-t.ensures c.in_ok-row.ensures.marked in
    let made : IsStep d m s row after = subst (λ e. IsStep e m s row after) inv.design c.in_ok-row.ensures.step in
    let st : Stepped d m (row_before rows (length rows)) offers gates s row after = record {
      over = c.in_ok-row.ensures.over;
      marked = marked;
      carried = c.in_ok-row.ensures.carried;
      step = made;
    } in
    let up : gates ≡ all_up m.channels = c.all_up-gates.ensures ∙ ap (λ (xs : List Channel). all_up xs) c.as_slice-channels.ensures in
    let grown = replay-grow d m ps c.requires.packets rows s inv.grown offers is gates up row after st c.in_ok-row.ensures.gates c.in_ok-row.ensures.fresh in
    record {
      grown = subst (λ (rs : List Row). Grown d m (IsReplayRow m.channels ps) rs after) (sym c.in_ok-push.ensures.ok) grown;
      design = c.step.ensures.design ∙ inv.design;
      count = ap length c.in_ok-push.ensures.ok ∙ length_push rows row ∙ ap (λ n. n + 1) inv.count;
    }
