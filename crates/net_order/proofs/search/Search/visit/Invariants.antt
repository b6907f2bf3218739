use Rattle.std.proofs.Common.{◌≢◌}
use Rattle.net_order.specs.declared.search.Mark.TheVariants.{Fresh}
use Rattle.net_order.specs.Search.{mark_of, StayBegun, steps_left}
use Rattle.net_order.specs.Steps.{IsSearch}
use Rattle.net_order.proofs.search.Search.visit.Given as goal

abbrev pub invariant-steps : goal.invariant-steps
invariant-steps l = record {
  sound : IsSearch l.graph l.self;
  stay : StayBegun l.fn.self.marks.items l.self.marks.items;
  begun : mark_of l.self.marks.items l.root ≢ Fresh;
}

abbrev pub decreases-steps : goal.decreases-steps
decreases-steps l = steps_left l.self.marks.items l.self.left.items
