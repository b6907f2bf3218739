use Rattle.std.proofs.Common.{◌-◌, drop, refl, arith}
use Rattle.wave_text.proofs.Eights.{ended, put-at}
use Rattle.wave_text.proofs.value_lines.put_number.Goals as goal

pub returns-clause-text : goal.returns-clause-text
returns-clause-text c =
    let end = c.put_eights-end.result.0 in
    let rest = c.put_eights-end.result.1 in
    let k = c.digits_of.result in
    let begun = c.put_eights-end.ensures.begun in
    let low = begun.low in
    let high = begun.high in
    let room = begun.room in
    let kept = c.put_eight.auto.places in
    let wide = c.requires in
    ended c.put_eight.new.places c.put_eights-end.new.places c.args.x rest end k (end - k - 1) (drop 129 c.args.places.now) low
    c.digits_of.ensures.fits refl (omega (arith, high, room, kept, wide)) (put-at c.put_eight.new.places c.put_eights-end.new.places rest end low
    c.put_eight.ensures)
    c.digits_of.ensures.value begun.text
