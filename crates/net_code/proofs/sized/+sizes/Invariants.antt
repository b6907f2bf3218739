use Rattle.std.proofs.Common.{◌↔◌, drop}
use Rattle.net_design.specs.Sized.{IsBlock, AreGuards, IsShort, IsCountable}
use Rattle.net_code.proofs.sized.+sizes.Given as goal

abbrev pub invariant-acts_sized-loop-act : goal.invariant-acts_sized-loop-act
invariant-acts_sized-loop-act l =
    IsBlock (IsShort l.limit) (IsCountable l.limit) (drop l.act-index l.act-items) ↔ IsBlock (IsShort l.limit) (IsCountable l.limit) l.acts

abbrev pub invariant-guards_sized-loop-guard : goal.invariant-guards_sized-loop-guard
invariant-guards_sized-loop-guard l =
    AreGuards (IsShort l.limit) (IsCountable l.limit) (drop l.guard-index l.guard-items) ↔ AreGuards (IsShort l.limit)
    (IsCountable l.limit) l.guards
