use Rattle.std.proofs.Common.{◌++◌, take}
use Rattle.vidi_io.proofs.Sent.{told-more, split-more}
use Rattle.vidi_io.proofs.host.write_whole.Goals as goal

pub loop-rest-preserved : goal.loop-rest-preserved
loop-rest-preserved g c = record {
  sent = c.loop-rest.invariant.sent ++ take c.in_ok-n.n c.loop-rest.rest.now;
  split = split-more c.args.piece.now c.loop-rest.invariant.sent c.loop-rest.rest.now c.in_ok-n.n c.loop-rest.invariant.split;
  told = told-more (g.W.Write.contents c.args.to.now) (g.W.Write.contents c.loop-rest.to) (g.W.Write.contents c.write.new.self)
      c.loop-rest.invariant.sent _ c.loop-rest.invariant.told c.in_ok-n.ensures.bytes;
}
