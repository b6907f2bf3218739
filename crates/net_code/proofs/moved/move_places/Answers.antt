use Rattle.std.proofs.Common.{◌^◌}
use Rattle.net_design.specs.declared.act.Place.{Place}
use Rattle.net_design.specs.Sized.{IsPlace, IsShort, IsCountable}
use Rattle.net_code.specs.Moved.{moved_place}
use Rattle.net_code.proofs.Lists.{one_more, others}
use Rattle.net_code.proofs.moved.move_places.Goals as goal

pub loop-place-preserved : goal.loop-place-preserved
loop-place-preserved c =
    let l = c.loop-place in
    let all = c.as_mut_slice-place-items in
    let f = moved_place c.args.base.net c.args.base.word in
    record {
      same = one_more f c.args.places.now l.place-items all.result.now l.place-index c.place-item.result c.move_place.new.place
          c.loop-place-test.true all.ensures.value l.invariant.same c.place-item.is c.move_place.ensures;
      near = others f c.args.places.now l.place-items all.result.now l.place-index c.place-item.result c.move_place.new.place
          (λ (p : Place). IsPlace (IsShort (2 ^ 32)) (IsCountable (2 ^ 32)) p) c.loop-place-test.true l.auto.place-items l.invariant.near;
    }
