use Rattle.std.proofs.Common.{◌≡◌, ℕ, ◌<◌, ◌≤◌, Some, slice_get}
use Rattle.net_design.specs.declared.design.Instance.{Instance}
use Rattle.net_lawful.proofs.frame.have_parents.Given as goal

abbrev pub invariant-loop-i : goal.invariant-loop-i
invariant-loop-i l = (j : ℕ) (x : Instance) → j < l.i → slice_get l.instances j ≡ Some x → 1 ≤ j → x.parent < j
