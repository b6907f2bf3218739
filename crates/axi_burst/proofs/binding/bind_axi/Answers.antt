use Rattle.axi_burst.proofs.Whole.{bound, moved}
use Rattle.axi_burst.proofs.binding.bind_axi.Goals as goal

pub returns : goal.returns
returns c =
    let all = moved c.args.text.now.beat c.as_slice.result.now c.args.channels.now c.as_slice-2.result.now c.args.text.now.lines
    c.in_ok-ends.ends c.as_slice.ensures c.as_slice-2.ensures c.in_ok-ends.ensures in
    bound c.args.text.now c.args.channels.now c.in_ok-ends.ends c.writes_from.result c.reads_from.result all.0 all.1
    c.writes_from.ensures c.reads_from.ensures
