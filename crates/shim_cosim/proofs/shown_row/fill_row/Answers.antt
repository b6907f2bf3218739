use Rattle.std.proofs.Common.{◌∙◌, ap, length}
use Rattle.replay_run.specs.run_model.Building.{mask_of}
use Rattle.replay_run.proofs.chan_monitor_lemmas.RowOfCycle.{refill-is}
use Rattle.shim_cosim.specs.declared.shown_row.Signal.TheVariants.{Valid}
use Rattle.shim_cosim.specs.Rewrapped.{contents_of, is_raised}
use Rattle.shim_cosim.proofs.ShownRow.{starts_are}
use Rattle.shim_cosim.proofs.shown_row.fill_row.Goals as goal

pub returns : goal.returns
returns c =
    let channels = c.args.channels.now in
    let out = c.args.outputs.now in
    let long = c.fill_contents.auto.contents in
    let contents = refill-is c.args.row.now.contents c.fill_contents.new.contents (rw c.as_mut_slice.ensures.value at long)
    ∙ c.fill_contents.ensures ∙ ap (λ v. contents_of channels v c.as_slice-fed.result.now out) c.raised-valids.ensures
    ∙ ap (λ xs. contents_of channels (mask_of (is_raised channels out Valid) (length channels)) xs out) c.as_slice-fed.ensures in
    let starts = starts_are (length channels) c.args.flight c.raised-valids.result c.without-row.result (is_raised channels out Valid)
    c.raised-valids.ensures c.without-row.ensures in
    λ i. record {
      fresh = c.args.row.now.fresh;
      gates = c.all_up-row.ensures i;
      valids = c.raised-valids.ensures i;
      readies = c.raised-row.ensures i;
      contents = contents i;
      starts = starts i;
      ends = c.raised-row-2.ensures i;
    }
