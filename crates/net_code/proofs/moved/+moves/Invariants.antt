use Rattle.std.proofs.Common.{◌≡◌, ◌^◌, ◌++◌, map, take, drop}
use Rattle.net_design.specs.Sized.{AreGuards, IsShort, IsCountable}
use Rattle.net_code.specs.Moved.{moved_act, moved_guard, IsNearBlock}
use Rattle.net_code.proofs.moved.+moves.Given as goal

abbrev pub invariant-move_acts-loop-act : goal.invariant-move_acts-loop-act
invariant-move_acts-loop-act l = record {
  same : l.act-items ≡ map (moved_act l.base.net l.base.word) (take l.act-index l.fn.acts) ++ drop l.act-index l.fn.acts;
  near : IsNearBlock (drop l.act-index l.act-items);
}

abbrev pub invariant-move_guards-loop-guard : goal.invariant-move_guards-loop-guard
invariant-move_guards-loop-guard l = record {
  same : l.guard-items ≡ map (moved_guard l.base.net l.base.word) (take l.guard-index l.fn.guards) ++ drop l.guard-index l.fn.guards;
  near : AreGuards (IsShort (2 ^ 32)) (IsCountable (2 ^ 32)) (drop l.guard-index l.guard-items);
}
