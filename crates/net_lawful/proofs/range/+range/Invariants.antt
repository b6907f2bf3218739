use Rattle.std.proofs.Common.{◌↔◌, drop}
use Rattle.net_lawful.specs.Rooms.{IsBlockIn, AreGuardsIn}
use Rattle.net_lawful.proofs.range.+range.Given as goal

abbrev pub invariant-acts_in-loop-act : goal.invariant-acts_in-loop-act
invariant-acts_in-loop-act l = IsBlockIn l.design l.rooms (drop l.act-index l.act-items) ↔ IsBlockIn l.design l.rooms l.acts

abbrev pub invariant-guards_in-loop-guard : goal.invariant-guards_in-loop-guard
invariant-guards_in-loop-guard l =
    AreGuardsIn l.design l.rooms (drop l.guard-index l.guard-items) ↔ AreGuardsIn l.design l.rooms l.guards
