use Rattle.axi_burst.proofs.BoundPorts.{bound-reads, bound-writes}
use Rattle.axi_burst.proofs.grouping.bursts.Goals as goal

pub writes_of-requires-clause-ports : goal.writes_of-requires-clause-ports
writes_of-requires-clause-ports c = bound-writes c.args.t.now.channels c.requires.bound.0 c.args.axi.now c.requires.bound.1

pub reads_of-requires-clause-ports : goal.reads_of-requires-clause-ports
reads_of-requires-clause-ports c = bound-reads c.args.t.now.channels c.requires.bound.0 c.args.axi.now c.requires.bound.1
