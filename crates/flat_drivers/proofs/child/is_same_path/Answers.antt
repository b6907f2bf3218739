use Rattle.std.proofs.Common.{refl, arith, length}
use Rattle.std.proofs.lemmas.Option.{slice_get_read}
use Rattle.flat_drivers.proofs.Paths.{path_next}
use Rattle.flat_drivers.proofs.child.is_same_path.Goals as goal

pub loop-k-preserved : goal.loop-k-preserved
loop-k-preserved c =
    path_next c.args.a.now c.args.b.now c.loop-k.k c.index-a-k.result c.index-b-k.result
    (slice_get_read c.args.a.now (length c.args.a.now) c.loop-k.k c.index-a-k.result refl c.loop-k-test.true c.index-a-k.is)
    (slice_get_read c.args.b.now (length c.args.b.now) c.loop-k.k c.index-b-k.result refl
    (omega (arith, c.loop-k-test.true, c.if-a-b.false)) c.index-b-k.is)
    (c.is_same_name.ensures c.if-not-is_same_name.false) c.loop-k.invariant
