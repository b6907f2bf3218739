use Rattle.std.proofs.Common.{◌-◌, refl, arith}
use Rattle.wave_text.proofs.Eights.{deeper, lowered, eight-more}
use Rattle.wave_text.proofs.value_lines.put_eights.Goals as goal

pub eights-init : goal.eights-init
eights-init c = record { low = omega arith; high = omega arith; step = refl; small = c.ranges.x.fits; room = refl; text = refl }

pub eights-preserved : goal.eights-preserved
eights-preserved c =
    let so_far = c.eights.invariant in
    let at = c.eights.at in
    let rest = c.eights.rest in
    let low = deeper at rest so_far.low so_far.step so_far.small c.eights-test.true in
    let step = so_far.step in
    let high = so_far.high in
    record {
      low = omega (arith, low);
      high = omega (arith, high);
      step = omega (arith, step, low);
      small = lowered at rest low so_far.small;
      room = (let kept = c.put_eight.auto.places in let room = so_far.room in omega (arith, kept, room));
      text = eight-more rest at (at - 8) c.eights.places c.put_eight.new.places _ c.eights-test.true (omega (arith, low)) c.put_eight.ensures so_far.text;
    }
