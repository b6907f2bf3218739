use Rattle.run_model.specs.Building.{number_for}
use Rattle.run_reference.proofs.PortLemmas.{places-more}
use Rattle.run_reference.proofs.pins.by_place.Goals as goal

pub loop-place-preserved : goal.loop-place-preserved
loop-place-preserved c = places-more (number_for c.args.entries.now) c.loop-place.place c.loop-place.numbers c.push.new.self
    c.number_for.result c.loop-place.invariant c.in_ok-push.ensures.ok c.number_for.ensures
